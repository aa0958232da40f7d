use Rattle.std.proofs.Common.{◌<◌, length, ap, ◌∙◌, arith}
use Rattle.serde_json.specs.View.{view}
use Rattle.serde_json.proofs.Views.{view-Array}
use Rattle.ds_json_reading.specs.Reading.{some_of}
use Rattle.ds_json_reading.proofs.SomeLemmas.{some_of-some}
use Rattle.ds_json_reading.proofs.lists.read_some.Goals as goal

pub returns-in-Array : goal.returns-in-Array
returns-in-Array g c =
    let form = g.F.Form.reads c.args.form.now in
    let some : 0 < length c.in-Array.items.items = grind arith in
    let is = ap (λ v. some_of form (view v)) c.in-Array.is ∙ ap (some_of form) (view-Array c.in-Array.items) ∙ some_of-some form c.in-Array.items.items some in
    rw is c.read_each.ensures
