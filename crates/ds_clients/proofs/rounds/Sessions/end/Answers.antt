use Rattle.std.proofs.Common.{◌≡◌, ◌++◌, ◌∙◌, ap, arith, length, sym}
use Rattle.std.proofs.lemmas.List.{nil_from_length}
use Rattle.ds_clients.specs.Runs.{passes_of}
use Rattle.ds_clients.proofs.RunLaws.{as_many_passes, no_passes}
use Rattle.ds_clients.proofs.rounds.Sessions.end.Goals as goal

pub returns-clause-passes : goal.returns-clause-passes
returns-clause-passes g c =
    let few : length c.loop-client.client-iterator.rest.items ≡ 0 =
    omega (arith, c.loop-client.client-iterator.rest.ok.0, c.in-None.ensures.steps.0) in
    no_passes (λ x. x.session) _ _ c.loop-client.client-iterator.rest.items (nil_from_length c.loop-client.client-iterator.rest.items few)
    c.loop-client.invariant.passes

pub returns-clause-many : goal.returns-clause-many
returns-clause-many g c =
    let few : length c.loop-client.client-iterator.rest.items ≡ 0 =
    omega (arith, c.loop-client.client-iterator.rest.ok.0, c.in-None.ensures.steps.0) in
    let many = as_many_passes (λ x. x.session) c.self.inside.clients.items c.args.passes.now.items c.loop-client.passes.items
    c.self.invariant
    (no_passes (λ x. x.session) _ _ c.loop-client.client-iterator.rest.items (nil_from_length c.loop-client.client-iterator.rest.items few)
    c.loop-client.invariant.passes
    ∙ ap (λ ss. c.args.passes.now.items ++ passes_of ss) (sym c.self.view_is)) in
    omega (arith, many, c.loop-client.passes.ok.0, c.args.passes.now.ok.0)
