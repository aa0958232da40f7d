use Rattle.std.proofs.Common.{◌≡◌, ◌==◌, ◌++◌, filter, map}
use Rattle.ds_log.specs.Logs.{group_writes}
use Rattle.ds_log.specs.Shards.{shard_of}
use Rattle.ds_log.proofs.projection.push_entries.Given as goal

abbrev pub invariant-loop-group : goal.invariant-loop-group
invariant-loop-group l =
    l.entries.items ≡ l.initial.entries.items ++ filter (λ e. shard_of e.group l.shards == l.shard)
    (map (λ g. record { commit = l.number; group = g; writes = group_writes g l.commit.writes }) l.yielded)
