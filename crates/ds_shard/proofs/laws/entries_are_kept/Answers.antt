use Rattle.ds_shard.proofs.Standing.{kept}
use Rattle.ds_shard.proofs.laws.entries_are_kept.Goals as goal

pub returns : goal.returns
returns c = kept
