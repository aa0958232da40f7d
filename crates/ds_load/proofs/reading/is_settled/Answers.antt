use Rattle.std.proofs.Common.{◌∙◌, sym}
use Rattle.ds_load.proofs.Telling.{settled_as}
use Rattle.ds_load.proofs.reading.is_settled.Goals as goal

pub returns-in-Some-get : goal.returns-in-Some-get
returns-in-Some-get c is =
    let got = c.in-Some-get.ensures.lookup in
    settled_as c.args.lines.now c.in-Some.at c.in-Some-get.line.now c.in-Some.ensures.1 got.3.0 got.1 (sym c.starts_with.ensures.value ∙ is)
