use Rattle.ds_branch.proofs.BoundSums.{add_up}
use Rattle.ds_branch.proofs.laws.bounds_add_up.Goals as goal

pub returns : goal.returns
returns c = add_up
