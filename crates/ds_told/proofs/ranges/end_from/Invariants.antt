use Rattle.std.proofs.Common.{◌≡◌, ◌≤◌, drop}
use Rattle.ds_base.specs.Limits.{greatest_id}
use Rattle.ds_told.specs.Told.{end_from}
use Rattle.ds_told.proofs.ranges.end_from.Given as goal

-- the ranges so far end there
abbrev pub invariant-loop-range : goal.invariant-loop-range
invariant-loop-range l = (l.end ≤ greatest_id) × (end_from l.first l.drawn ≡ end_from l.end (drop l.range-index l.drawn))
