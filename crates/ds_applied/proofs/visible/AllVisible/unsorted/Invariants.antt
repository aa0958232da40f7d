use Rattle.std.proofs.Common.{◌≡◌, map, take}
use Rattle.ds_applied.specs.ByKey.{joined}
use Rattle.ds_applied.proofs.visible.AllVisible.unsorted.Given as goal

-- so far the entities of the first shards
abbrev pub invariant-loop-shard : goal.invariant-loop-shard
invariant-loop-shard l = map (λ e. e.now) l.entities.items ≡ joined (take l.shard-index l.shard-items)
