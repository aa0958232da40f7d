-- So many lanes so far.
use Rattle.std.proofs.Common.{◌≡◌, vec_len}
use Rattle.ds_engine.proofs.wide.empty_lanes.Given as goal

abbrev pub invariant-loop-lane : goal.invariant-loop-lane
invariant-loop-lane l = vec_len l.lanes ≡ l.lane
