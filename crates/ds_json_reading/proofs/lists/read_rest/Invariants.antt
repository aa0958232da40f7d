use Rattle.std.proofs.Common.{◌≡◌}
use Rattle.serde_json.specs.View.{items_view}
use Rattle.ds_json_reading.proofs.Each.{each_after}
use Rattle.ds_json_reading.proofs.lists.read_rest.Given as goal

abbrev pub invariant-loop-item : goal.invariant-loop-item
invariant-loop-item g l =
    each_after (g.F.Form.reads l.form) l.fn.read.items (items_view l.fn.rest.rest.items) ≡ each_after (g.F.Form.reads l.form) l.read.items (items_view l.item-iterator.rest.items)
