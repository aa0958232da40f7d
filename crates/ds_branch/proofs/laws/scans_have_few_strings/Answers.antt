use Rattle.ds_branch.proofs.PartRows.{few_strings}
use Rattle.ds_branch.proofs.laws.scans_have_few_strings.Goals as goal

pub returns : goal.returns
returns c = few_strings
