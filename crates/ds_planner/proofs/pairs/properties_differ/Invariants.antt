use Rattle.std.proofs.Common.{◌≡◌, drop}
use Rattle.ds_planner.specs.Suits.{properties_differ}
use Rattle.ds_planner.proofs.pairs.properties_differ.Given as goal

abbrev pub invariant-loop-i : goal.invariant-loop-i
invariant-loop-i l = properties_differ l.pairs ≡ properties_differ (drop l.i l.pairs)
