use Rattle.ds_base.specs.ColumnLaws.{same_column-decides}
use Rattle.ds_base.proofs.column.ColumnPartialEq.eq.Goals as goal

pub returns-clause-same : goal.returns-clause-same
returns-clause-same c = rw c.compare_columns.ensures (same_column-decides _ _)
