use Rattle.std.proofs.Common.{◌-◌}
use Rattle.ds_lanes.specs.Hits.{NoneIn, differ_at}
use Rattle.ds_lanes.proofs.prefixes.difference_in_many.Given as goal

abbrev pub invariant-loop-at : goal.invariant-loop-at
invariant-loop-at l = NoneIn (differ_at l.a l.b) 0 l.at

abbrev pub decreases-loop-at : goal.decreases-loop-at
decreases-loop-at l = l.len - l.at
