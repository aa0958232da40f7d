use Rattle.std.proofs.Common.{◌≡◌, [], map, take, replicate}
use Rattle.ds_hub.specs.Holding.{hub_in, known_in}
use Rattle.ds_store_passes.proofs.making.all_slots.Given as goal

abbrev pub invariant-loop-shard : goal.invariant-loop-shard
invariant-loop-shard g l = record {
  same : l.shard-items ≡ l.fn.shards.items;
  hubs : map hub_in l.slots.items ≡ take l.shard-index l.shard-items;
  known : map known_in l.slots.items ≡ replicate l.shard-index [];
}
