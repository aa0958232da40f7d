use Rattle.std.proofs.Common.{◌-◌, drop, length, take, refl, ◌∙◌, arith}
use Rattle.std.proofs.lemmas.List.{take_all}
use Rattle.ds_store_running.proofs.Tails.{part_is}
use Rattle.ds_store_running.proofs.tailing.first_copied.Goals as goal

pub returns : goal.returns
returns c =
    let journal = c.args.journal.now in
    let from = c.args.part.from in
    c.loop-commit.invariant
    ∙ take_all c.loop-commit.commit-index (take (c.min-end.result - from) (drop from journal)) (omega (arith, c.loop-commit-test.false))
    ∙ part_is journal from c.args.part.most c.min-end.result (length journal) c.min-end.ensures refl c.requires.from
