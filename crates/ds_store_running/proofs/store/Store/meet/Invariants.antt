use Rattle.std.proofs.Common.{◌≡◌, ◌≤◌, ◌<◌, ℕ, length, get_or}
use Rattle.ds_model.specs.Sessions.{count_of}
use Rattle.ds_store_passes.specs.Passes.{HasRead, counts_of}
use Rattle.ds_store_running.proofs.store.Store.meet.Given as goal

-- the counts of the first shards are met
abbrev pub invariant-loop-shard : goal.invariant-loop-shard
invariant-loop-shard g l = record {
  read : HasRead l.fn.pass l.pass;
  place : l.place ≤ l.pass.place;
  next : l.next ≤ l.pass.next;
  all : length l.pass.lists ≡ l.self.shards;
  met : (k : ℕ) → k < l.shard → get_or l.counts k 0 ≤ count_of (counts_of l.pass) k;
}
