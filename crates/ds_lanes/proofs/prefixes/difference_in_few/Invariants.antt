use Rattle.ds_lanes.specs.Hits.{NoneIn, differ_at}
use Rattle.ds_lanes.proofs.prefixes.difference_in_few.Given as goal

abbrev pub invariant-loop-i : goal.invariant-loop-i
invariant-loop-i l = NoneIn (differ_at l.a l.b) 0 l.i
