use Rattle.std.proofs.Common.{◌≡◌, ◌∙◌, arith, length-set, refl}
use Rattle.ds_clients.proofs.ClientLaws.{all_done, done_weaker, each_weaker, one_done, some_done}
use Rattle.ds_clients.proofs.clients.make_rooms.Goals as goal

pub returns-in_err-make_room-clause-same : goal.returns-in_err-make_room-clause-same
returns-in_err-make_room-clause-same g c =
    let so_far = done_weaker _ (λ x y. (y.session ≡ record x.session { room = y.session.room }) × (y.own ≡ x.own))
    (λ x y h. (h.0, h.1)) c.loop-client.client-index c.args.clients.now c.loop-client.client-items c.loop-client.invariant in
    some_done (λ x y. (y.session ≡ record x.session { room = y.session.room }) × (y.own ≡ x.own)) (λ x. (refl, refl))
    c.args.clients.now _ _
    (length-set c.loop-client.client-items c.loop-client.client-index c.make_room.new.self ∙ c.loop-client.auto.client-items)
    (one_done (λ x y. (y.session ≡ record x.session { room = y.session.room }) × (y.own ≡ x.own)) c.args.clients.now
    c.loop-client.client-items c.loop-client.client-index c.client-item.result c.make_room.new.self
    (omega (arith, c.loop-client-test.true, c.loop-client.auto.client-items))
    (c.make_room.ensures.same, c.make_room.ensures.own) so_far)

pub returns-clause-same : goal.returns-clause-same
returns-clause-same g c =
    each_weaker _ (λ x y. (y.session ≡ record x.session { room = y.session.room }) × (y.own ≡ x.own)) (λ x y h. (h.0, h.1))
    c.args.clients.now c.loop-client.client-items
    (all_done _ c.args.clients.now c.loop-client.client-items c.loop-client.client-index c.loop-client.auto.client-items
    (omega (arith, c.loop-client-test.false, c.loop-client.auto.client-index-end)) c.loop-client.invariant)
