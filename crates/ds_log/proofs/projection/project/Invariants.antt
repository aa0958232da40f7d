use Rattle.std.proofs.Common.{◌≡◌, take}
use Rattle.ds_log.specs.Logs.{shard_list}
use Rattle.ds_log.proofs.projection.project.Given as goal

abbrev pub invariant-loop-i : goal.invariant-loop-i
invariant-loop-i l = l.entries.items ≡ shard_list (take l.i l.journal) l.shard l.shards
