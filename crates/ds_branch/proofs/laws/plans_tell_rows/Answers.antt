use Rattle.ds_branch.proofs.CommonRows.{plans_tell}
use Rattle.ds_branch.proofs.laws.plans_tell_rows.Goals as goal

pub returns : goal.returns
returns c = plans_tell
