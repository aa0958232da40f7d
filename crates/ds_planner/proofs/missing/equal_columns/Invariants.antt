use Rattle.std.proofs.Common.{◌≡◌, ◌++◌, drop}
use Rattle.ds_planner.specs.Missing.{equal_columns}
use Rattle.ds_planner.proofs.missing.equal_columns.Given as goal

abbrev pub invariant-loop-i : goal.invariant-loop-i
invariant-loop-i l = equal_columns l.pairs ≡ l.columns.items ++ equal_columns (drop l.i l.pairs)
