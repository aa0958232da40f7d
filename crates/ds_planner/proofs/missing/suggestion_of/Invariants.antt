use Rattle.std.proofs.Common.{◌≡◌, ◌++◌, drop}
use Rattle.ds_planner.specs.Missing.{equal_columns, without_key}
use Rattle.ds_planner.proofs.missing.suggestion_of.Given as goal

abbrev pub invariant-loop-column : goal.invariant-loop-column
invariant-loop-column l =
    equal_columns l.branch.equal ++ without_key l.branch.columns
    ≡ l.columns.items ++ drop l.column-index (without_key l.branch.columns)
