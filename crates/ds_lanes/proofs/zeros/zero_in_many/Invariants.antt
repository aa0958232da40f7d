use Rattle.std.proofs.Common.{◌-◌, length}
use Rattle.ds_lanes.specs.Hits.{NoneIn, zero_at}
use Rattle.ds_lanes.proofs.zeros.zero_in_many.Given as goal

abbrev pub invariant-loop-at : goal.invariant-loop-at
invariant-loop-at l = NoneIn (zero_at l.bytes) 0 l.at

abbrev pub decreases-loop-at : goal.decreases-loop-at
decreases-loop-at l = length l.bytes - l.at
