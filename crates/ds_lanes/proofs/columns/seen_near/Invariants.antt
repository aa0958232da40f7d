use Rattle.ds_lanes.specs.Hits.{NoneIn, visible_at}
use Rattle.ds_lanes.proofs.columns.seen_near.Given as goal

abbrev pub invariant-loop-i : goal.invariant-loop-i
invariant-loop-i l = NoneIn (visible_at l.from l.to l.at) 0 l.i
