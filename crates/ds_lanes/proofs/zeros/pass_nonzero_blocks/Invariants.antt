use Rattle.std.proofs.Common.{◌-◌, ◌≤◌, length}
use Rattle.ds_lanes.specs.Hits.{NoneIn, zero_at}
use Rattle.ds_lanes.proofs.zeros.pass_nonzero_blocks.Given as goal

abbrev pub invariant-loop-at : goal.invariant-loop-at
invariant-loop-at l = record { within : l.at ≤ length l.bytes; passed : NoneIn (zero_at l.bytes) 0 l.at }

abbrev pub decreases-loop-at : goal.decreases-loop-at
decreases-loop-at l = length l.bytes - l.at
