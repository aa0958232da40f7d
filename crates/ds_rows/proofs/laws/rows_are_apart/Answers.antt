use Rattle.ds_rows.specs.RowLaws.{rows_apart}
use Rattle.ds_rows.proofs.laws.rows_are_apart.Goals as goal

pub returns : goal.returns
returns c = rows_apart
