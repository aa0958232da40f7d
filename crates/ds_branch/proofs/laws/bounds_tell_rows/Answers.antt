use Rattle.ds_branch.proofs.BoundLaws.{row_stands}
use Rattle.ds_branch.proofs.laws.bounds_tell_rows.Goals as goal

pub returns : goal.returns
returns c = row_stands
