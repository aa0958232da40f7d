use Rattle.std.proofs.Common.{◌≡◌, arith, length}
use Rattle.ds_clients.proofs.ClientLaws.{all_done}
use Rattle.ds_clients.proofs.clients.hand_out.Goals as goal

pub returns-clause-sessions : goal.returns-clause-sessions
returns-clause-sessions g c =
    let few : length c.loop-own.own-iterator.rest.items ≡ 0 =
    omega (arith, c.loop-own.own-iterator.rest.ok.0, c.in-None.ensures.steps.0) in
    all_done (λ x y. y.session ≡ x.session) c.args.clients.now c.loop-own.clients c.loop-own.client c.loop-own.auto.clients
    (omega (arith, few, c.loop-own.invariant.left, c.loop-own.auto.clients)) c.loop-own.invariant.same
