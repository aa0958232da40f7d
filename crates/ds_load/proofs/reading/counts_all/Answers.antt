use Rattle.std.proofs.Common.{◌∙◌, sym, arith}
use Rattle.ds_load.proofs.TellingSome.{counts_told}
use Rattle.ds_load.proofs.reading.counts_all.Goals as goal

pub returns : goal.returns
returns c is =
    counts_told c.args.items c.in-Some-sum.sum c.args.line.now c.bytes.result.now c.in-Some.counts
    (omega (arith, c.if-sum-from.false, c.from.ensures)) c.in-Some-sum.ensures (c.bytes.ensures ∙ c.in_ok-begins.ensures)
    (sym c.starts_with.ensures.value ∙ is)
