use Rattle.std.proofs.Common.{◌≡◌, take}
use Rattle.ds_model.specs.Sessions.{counted_place}
use Rattle.ds_applied.proofs.applied.Applied.counted_place.Given as goal

-- so far the place that the counts of the first shards show
abbrev pub invariant-loop-shard : goal.invariant-loop-shard
invariant-loop-shard l = l.place ≡ counted_place (take l.shard l.self.lists) (take l.shard l.counts)
