use Rattle.std.proofs.Common.{◌≡◌, ◌≤◌, [], length, drop, All}
use Rattle.ds_store_hubs.specs.Origins.{origins}
use Rattle.ds_store_shards.proofs.making.shard_desks.Given as goal

abbrev pub invariant-loop-shard : goal.invariant-loop-shard
invariant-loop-shard g l = record {
  left : l.shard-iterator.rest.items ≡ drop l.number (origins g.J.Names.ledger g.J.Names.definitions g.J.Names.window g.J.Names.shards);
  within : l.number ≤ length g.J.Names.shards;
  desks : length l.desks.items ≡ l.number;
  readers : All (λ r. (r.hub ≡ g.J.Names.journal) × (r.known ≡ [])) l.readers.items;
}
