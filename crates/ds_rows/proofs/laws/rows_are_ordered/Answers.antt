use Rattle.ds_rows.specs.RowLaws.{rows_ordered}
use Rattle.ds_rows.proofs.laws.rows_are_ordered.Goals as goal

pub returns : goal.returns
returns c = rows_ordered
