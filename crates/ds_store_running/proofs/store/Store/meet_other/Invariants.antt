use Rattle.std.proofs.Common.{◌≡◌, ◌≤◌, ◌<◌, ℕ, length}
use Rattle.ds_model.specs.Sessions.{count_of}
use Rattle.ds_store_passes.specs.Passes.{HasRead, counts_of}
use Rattle.ds_store_running.proofs.store.Store.meet_other.Given as goal

-- the counts of the first shards are met
abbrev pub invariant-loop-shard : goal.invariant-loop-shard
invariant-loop-shard g l = record {
  read : HasRead l.fn.pass l.pass;
  place : l.other.place ≤ l.pass.place;
  next : l.other.next ≤ l.pass.next;
  many : l.many ≡ length l.other.lists;
  all : length l.pass.lists ≡ l.self.shards;
  met : (k : ℕ) → k < l.shard → count_of (counts_of l.other) k ≤ count_of (counts_of l.pass) k;
}
