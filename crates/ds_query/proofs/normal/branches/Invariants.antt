use Rattle.std.proofs.Common.{◌≡◌, map}
use Rattle.ds_query.specs.ColumnLists.{columns_of}
use Rattle.ds_query.specs.Branching.{branch_of}
use Rattle.ds_query.proofs.normal.branches.Given as goal

abbrev pub invariant-loop-conditions : goal.invariant-loop-conditions
invariant-loop-conditions l = (l.columns ≡ columns_of l.query) × (l.branches.items ≡ map (branch_of l.query) l.yielded)
