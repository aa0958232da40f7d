use Rattle.std.proofs.Common.{ℕ, ◌<◌, ◌^◌, length}
use Rattle.ds_model.specs.Sessions.{list_of}
use Rattle.ds_model.specs.Worlds.{shard_lists}
use Rattle.ds_judging_lines.proofs.lawful.entries_are_counted.Given as goal

-- each shard that was looked at has so few entries
abbrev pub invariant-loop-shard : goal.invariant-loop-shard
invariant-loop-shard l = (k : ℕ) → k < l.shard → length (list_of (shard_lists l.history.shards l.history.journal) k) < 2 ^ 64
