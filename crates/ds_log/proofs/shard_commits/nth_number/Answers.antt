use Rattle.ds_log.proofs.Numbers.{last_taken}
use Rattle.ds_log.proofs.shard_commits.nth_number.Goals as goal

pub returns : goal.returns
returns c = last_taken c.args.commits.now c.args.n c.if-n-eq0.false c.requires
