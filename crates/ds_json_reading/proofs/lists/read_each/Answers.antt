use Rattle.std.proofs.Common.{◌≡◌, []}
use Rattle.serde_json.specs.View.{items_view}
use Rattle.ds_json_reading.proofs.Each.{each_after-start}
use Rattle.ds_json_reading.proofs.lists.read_each.Goals as goal

pub returns : goal.returns
returns g c =
    let none : c.in-Ok.read.items ≡ [] = c.in-Ok.ensures.items in
    rw (each_after-start (g.F.Form.reads c.args.form.now) (items_view c.args.items.items)) (rw (c.into_iter.ensures.rest, none) at c.read_rest.ensures)
