-- The greatest of the clients so far.
use Rattle.std.proofs.Common.{◌≡◌, map, take}
use Rattle.ds_protocol.specs.Watermarks.{greatest_of}
use Rattle.ds_clients.specs.Runs.{seen_of}
use Rattle.ds_clients.proofs.clients.greatest_seen.Given as goal

abbrev pub invariant-loop-client : goal.invariant-loop-client
invariant-loop-client g l = l.greatest ≡ greatest_of l.shards (seen_of (map (λ c. c.session) (take l.client-index l.clients)))
