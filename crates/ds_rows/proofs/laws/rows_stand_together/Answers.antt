use Rattle.ds_rows.specs.RowLaws.{front_tells, between}
use Rattle.ds_rows.proofs.laws.rows_stand_together.Goals as goal

pub returns : goal.returns
returns c = record { only = front_tells; between = between }
