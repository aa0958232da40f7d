use Rattle.std.proofs.Common.{◌≡◌, take}
use Rattle.ds_applied.specs.AppliedLists.{shard_views}
use Rattle.ds_applied.specs.ByKey.{joined}
use Rattle.ds_applied.proofs.applied.Applied.all_visible.Given as goal

-- so far the entities of the first shards
abbrev pub invariant-loop-shard : goal.invariant-loop-shard
invariant-loop-shard l = joined l.shards.items ≡ shard_views (take l.shard l.self.lists) (take l.shard l.counts)
