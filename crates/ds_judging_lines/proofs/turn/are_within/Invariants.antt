use Rattle.std.proofs.Common.{ℕ, ◌<◌, length, take, get_or}
use Rattle.ds_log.specs.Logs.{shard_list}
use Rattle.ds_model.specs.Worlds.{shard_lists}
use Rattle.ds_judging_lines.specs.Deciding.{IsCountWithin}
use Rattle.ds_judging_lines.proofs.turn.are_within.Given as goal

-- the counts of the shards that were looked at are within
abbrev pub invariant-loop-shard : goal.invariant-loop-shard
invariant-loop-shard l =
    (k : ℕ) → k < l.shard
    → IsCountWithin (λ s. length (shard_list (take l.place l.history.journal) s l.history.shards))
    (shard_lists l.history.shards l.history.journal) k
    (get_or l.seen k 0) (get_or l.counts k 0)
