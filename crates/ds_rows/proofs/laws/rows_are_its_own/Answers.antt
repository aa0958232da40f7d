use Rattle.ds_rows.specs.OwnRowLaws.{rows_are_own}
use Rattle.ds_rows.proofs.laws.rows_are_its_own.Goals as goal

pub returns : goal.returns
returns c = rows_are_own
