use Rattle.ds_rows.proofs.CountLaws.{all_counted}
use Rattle.ds_rows.proofs.laws.rows_are_counted.Goals as goal

pub returns : goal.returns
returns c = all_counted
