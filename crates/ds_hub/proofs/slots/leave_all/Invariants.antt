use Rattle.std.proofs.Common.{◌≡◌, ◌++◌, map, take, drop}
use Rattle.ds_hub.specs.Holding.{out_of}
use Rattle.ds_hub.proofs.slots.leave_all.Given as goal

abbrev pub invariant-loop-slot : goal.invariant-loop-slot
invariant-loop-slot g l = l.slots ≡ map out_of (take l.slot-index l.initial.slots) ++ drop l.slot-index l.initial.slots
