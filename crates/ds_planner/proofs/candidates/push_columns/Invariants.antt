use Rattle.std.proofs.Common.{◌≡◌, ◌++◌, drop}
use Rattle.std.specs.Prelude.{filter, flat_map}
use Rattle.ds_planner.specs.Indexes.{is_candidate}
use Rattle.ds_planner.specs.Missing.{two_ways}
use Rattle.ds_planner.proofs.candidates.push_columns.Given as goal

abbrev pub invariant-loop-column : goal.invariant-loop-column
invariant-loop-column l =
    l.initial.found.items ++ filter (is_candidate l.branch l.defs) (flat_map (λ c. two_ways c.name) l.branch.columns)
    ≡ l.found.items ++ filter (is_candidate l.branch l.defs) (flat_map (λ c. two_ways c.name) (drop l.column-index l.branch.columns))
