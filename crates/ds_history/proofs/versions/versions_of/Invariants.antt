use Rattle.std.proofs.Common.{◌≡◌, map}
use Rattle.std.specs.List.{range_with_len}
use Rattle.ds_base.specs.Keys.{KeyParts}
use Rattle.ds_log.specs.Logs.{shard_list}
use Rattle.ds_history.specs.Versions.{versions_in, versions_of}
use Rattle.ds_history.proofs.versions.versions_of.Given as goal

-- so far the entries of the first shards are noted
abbrev pub invariant-loop-shard : goal.invariant-loop-shard
invariant-loop-shard l = (k : KeyParts)
    → versions_in l.kinds.entries k ≡ versions_of k (map (λ shard. shard_list l.journal shard l.shards) (range_with_len 0 l.shard))
