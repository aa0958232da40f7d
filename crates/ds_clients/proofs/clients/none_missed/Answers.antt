use Rattle.std.proofs.Common.{◌≡◌, List, refl, subst, sym}
use Rattle.std.specs.Prelude.{All}
use Rattle.std.proofs.lemmas.List.Elements.{All-replicate}
use Rattle.ds_model.specs.Sessions.{Session}
use Rattle.ds_protocol.specs.Watermarks.{nothing_seen}
use Rattle.ds_clients.proofs.clients.none_missed.Goals as goal

pub returns-clause-all : goal.returns-clause-all
returns-clause-all c =
    subst (λ (ms : List Session). All (λ m. m ≡ nothing_seen c.args.shards) ms) (sym c.loop-client.invariant)
    (All-replicate (λ m. m ≡ nothing_seen c.args.shards) c.loop-client._client (nothing_seen c.args.shards) refl)
