use Rattle.std.proofs.Common.{◌≡◌, arith, subst}
use Rattle.std.specs.Prelude.{List}
use Rattle.ds_client.specs.Sessions.{SessionParts}
use Rattle.ds_clients.specs.Clients.{IsCut}
use Rattle.ds_clients.proofs.KeptLaws.{first_there}
use Rattle.ds_clients.proofs.rounds.Sessions.hold_back.Goals as goal

pub take_unsent-requires : goal.take_unsent-requires
take_unsent-requires g c =
    let first = first_there (λ x. x.session.client) (λ x. x.session) 15 c.self.inside.clients.items c.self.invariant in
    subst (λ (ss : List SessionParts). IsCut ss (record { client = 0; taken = 0 })) c.self.view_is
    (record { session = first.0; there = first.1; within = omega arith })
