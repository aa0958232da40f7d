use Rattle.std.proofs.Common.{◌≡◌, ◌++◌, drop}
use Rattle.ds_disk.specs.Memory.{filled}
use Rattle.ds_disk.proofs.state.fill.Given as goal

abbrev pub invariant-loop-slot : goal.invariant-loop-slot
invariant-loop-slot l = l.image.items ++ filled (drop l.slot-index l.stays) l.rest ≡ filled l.stays l.wish
