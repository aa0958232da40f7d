use Rattle.std.proofs.Common.{◌≡◌, map}
use Rattle.std.specs.Prelude.{All}
use Rattle.ds_log.specs.Logs.{group_writes}
use Rattle.ds_log.specs.Routing.{entry_of, IsRouted}
use Rattle.ds_log.proofs.projection.route.Given as goal

-- so far one entry per group, each with its shard
abbrev pub invariant-loop-group : goal.invariant-loop-group
invariant-loop-group l =
    (map entry_of l.routed.items ≡ map (λ g. record { commit = l.number; group = g; writes = group_writes g l.commit.writes }) l.yielded)
    × All (IsRouted l.shards) l.routed.items
