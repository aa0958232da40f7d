-- The values of the slots so far.
use Rattle.std.proofs.Common.{◌≡◌, take, map}
use Rattle.ds_pages.specs.Marks.{value_at}
use Rattle.ds_pages.proofs.marks.mark_of.Given as goal

abbrev pub invariant-loop-slot : goal.invariant-loop-slot
invariant-loop-slot l = l.values.items ≡ map (value_at l.row.values) (take l.slot-index l.slots)
