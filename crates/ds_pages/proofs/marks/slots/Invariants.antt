-- The slots of the names so far.
use Rattle.std.proofs.Common.{◌≡◌, take, map}
use Rattle.ds_pages.specs.Slots.{slot_of}
use Rattle.ds_pages.proofs.marks.slots.Given as goal

abbrev pub invariant-loop-name : goal.invariant-loop-name
invariant-loop-name l = l.slots.items ≡ map (slot_of l.columns) (take l.name-index l.names)
