use Rattle.std.proofs.Common.{◌≡◌, replicate}
use Rattle.ds_protocol.specs.Watermarks.{nothing_seen}
use Rattle.ds_clients.proofs.clients.none_missed.Given as goal

abbrev pub invariant-loop-client : goal.invariant-loop-client
invariant-loop-client l = l.missed.items ≡ replicate l._client (nothing_seen l.shards)
