use Rattle.std.proofs.Common.{◌≡◌, ◌-◌, ◌++◌, map, length}
use Rattle.std.specs.Prelude.{filter}
use Rattle.std.specs.List.{range_with_len}
use Rattle.ds_planner.specs.declared.planned.PlannedIndex.TheVariants.{Composite}
use Rattle.ds_planner.specs.Indexes.{is_candidate}
use Rattle.ds_planner.proofs.candidates.composites.Given as goal

-- those among the definitions so far are found, and the rest is to come
abbrev pub invariant-loop-position : goal.invariant-loop-position
invariant-loop-position l =
    filter (is_candidate l.branch l.defs) (map Composite (range_with_len 0 (length l.defs)))
    ≡ l.found.items ++ filter (is_candidate l.branch l.defs) (map Composite (range_with_len l.position (length l.defs - l.position)))
