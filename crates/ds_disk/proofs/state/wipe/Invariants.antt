use Rattle.std.proofs.Common.{◌≡◌, ◌-◌, ◌≤◌, length}
use Rattle.ds_disk.specs.Memory.{wiped}
use Rattle.ds_disk.proofs.state.wipe.Given as goal

abbrev pub invariant-loop-i : goal.invariant-loop-i
invariant-loop-i l = record { start : l.at ≤ l.i; within : l.i - l.at ≤ l.n; done : l.stays ≡ wiped l.initial.stays l.at (l.i - l.at) }

abbrev pub decreases-loop-i : goal.decreases-loop-i
decreases-loop-i l = length l.initial.stays - l.i
