use Rattle.std.proofs.Common.{◌≡◌}
use Rattle.ds_store_running.proofs.Settles.{AreSettled}
use Rattle.ds_store_running.proofs.store.Store.settle.Given as goal

-- the first shards are settled
abbrev pub invariant-loop-shard : goal.invariant-loop-shard
invariant-loop-shard g l = record {
  all : l.shards ≡ l.self.shards;
  settled : AreSettled l.self.shards l.place l.fn.pass l.pass l.shard l.counts l.commit;
}
