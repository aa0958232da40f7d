use Rattle.std.proofs.Common.{◌≡◌, ◌++◌, take}
use Rattle.ds_log.specs.Logs.{shard_list}
use Rattle.ds_store_hubs.proofs.arriving.later_entries.Given as goal

-- the entries so far are those of the commits so far
abbrev pub invariant-loop-place : goal.invariant-loop-place
invariant-loop-place l =
    shard_list (take l.place l.journal) l.shard l.shards ≡ shard_list (take l.from l.journal) l.shard l.shards ++ l.entries.items
