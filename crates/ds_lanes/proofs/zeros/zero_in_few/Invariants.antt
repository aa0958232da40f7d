use Rattle.ds_lanes.specs.Hits.{NoneIn, zero_at}
use Rattle.ds_lanes.proofs.zeros.zero_in_few.Given as goal

abbrev pub invariant-loop-i : goal.invariant-loop-i
invariant-loop-i l = NoneIn (zero_at l.bytes) 0 l.i
