use Rattle.std.proofs.Common.{◌+◌, ◌-◌, ◌∙◌, ◌++◌, List, ap, arith, map, subst, sym, take}
use Rattle.std.specs.Prelude.{All}
use Rattle.std.proofs.lemmas.List.{length-map}
use Rattle.ds_base.specs.Limits.{greatest_client}
use Rattle.ds_client.specs.Sessions.{SessionParts}
use Rattle.ds_store.specs.Lower.{IsNoLower}
use Rattle.ds_clients.specs.Moving.{AreMoved}
use Rattle.ds_clients.specs.Runs.{passes_of}
use Rattle.ds_clients.proofs.MovingLaws.{numbers_moved, passes_before}
use Rattle.ds_clients.proofs.RunLaws.{so_many}
use Rattle.ds_clients.proofs.rounds.Sessions.moved.Goals as goal

pub moved_clients-clients-requires-clause-room : goal.moved_clients-clients-requires-clause-room
moved_clients-clients-requires-clause-room g c = (
  c.in-Ok.ensures.items,
  omega (
    arith,
    so_many (λ x. x.session.client) (greatest_client + 1) c.self.inside.clients.items c.self.invariant,
    c.self.inside.clients.ok.0,
    c.in-Ok.ensures.capacity,
  ),
)

pub moved_clients-clients-requires-clause-many : goal.moved_clients-clients-requires-clause-many
moved_clients-clients-requires-clause-many g c =
    omega (
      arith,
      so_many (λ x. x.session.client) (greatest_client + 1) c.self.inside.clients.items c.self.invariant,
      c.self.inside.clients.ok.0,
      c.requires.many,
    )

pub moved_clients-clients-requires-clause-space : goal.moved_clients-clients-requires-clause-space
moved_clients-clients-requires-clause-space g c =
    omega (
      arith,
      so_many (λ x. x.session.client) (greatest_client + 1) c.self.inside.clients.items c.self.invariant,
      c.self.inside.clients.ok.0,
      c.requires.room,
    )

pub moved_clients-clients-requires-clause-no_lower : goal.moved_clients-clients-requires-clause-no_lower
moved_clients-clients-requires-clause-no_lower g c =
    subst (λ (ss : List SessionParts). All (λ p. All (λ s. IsNoLower s.pass p) ss) c.args.passes.now.items) (sym c.self.view_is)
    c.requires.no_lower

pub invariant_of-result-2 : goal.invariant_of-result-2
invariant_of-result-2 g c =
    numbers_moved (λ x. x.session) (λ x. x.session) c.self.inside.clients.items c.moved_clients-clients.result.items
    c.moved_clients-clients.ensures.moved ∙ c.self.invariant

pub returns-clause-moved : goal.returns-clause-moved
returns-clause-moved g c =
    subst (λ (ss : List SessionParts). AreMoved ss (map (λ x. x.session) c.moved_clients-clients.result.items)) c.self.view_is
    c.moved_clients-clients.ensures.moved

pub returns-clause-left : goal.returns-clause-left
returns-clause-left g c =
    passes_before c.args.passes.now.items c.moved_clients-clients.new.passes.items (map (λ x. x.session) c.self.inside.clients.items)
    (map (λ x. x.session) c.moved_clients-clients.result.items) (greatest_client + 1) c.moved_clients-clients.ensures.moved
    (length-map c.self.inside.clients.items (λ x. x.session)
    ∙ so_many (λ x. x.session.client) (greatest_client + 1) c.self.inside.clients.items c.self.invariant)
    c.moved_clients-clients.ensures.taken
    ∙ ap (λ n. take (n - (greatest_client + 1)) c.args.passes.now.items) (sym c.args.passes.now.ok.0)

pub returns-clause-old : goal.returns-clause-old
returns-clause-old g c =
    c.moved_clients-clients.ensures.old ∙ ap (λ (ss : List SessionParts). c.args.old.now.items ++ passes_of ss) c.self.view_is
