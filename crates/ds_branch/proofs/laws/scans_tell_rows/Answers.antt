use Rattle.ds_branch.proofs.ScanRows.{scans_tell}
use Rattle.ds_branch.proofs.laws.scans_tell_rows.Goals as goal

pub returns : goal.returns
returns c = scans_tell
