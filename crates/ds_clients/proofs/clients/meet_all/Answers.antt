use Rattle.std.proofs.Common.{◌≡◌, arith, length}
use Rattle.ds_client.specs.Meeting.{HasTaken}
use Rattle.ds_clients.proofs.ClientLaws.{all_done}
use Rattle.ds_clients.proofs.clients.meet_all.Goals as goal

pub returns : goal.returns
returns g c =
    all_done (λ x y. HasTaken c.args.greatest.now x.session y.session × (y.own ≡ x.own) × (y.session.room ≡ x.session.room)
    × (length y.session.seen.counts ≡ length x.session.seen.counts)) c.args.clients.now c.loop-client.client-items
    c.loop-client.client-index c.loop-client.auto.client-items
    (omega (arith, c.loop-client-test.false, c.loop-client.auto.client-index-end)) c.loop-client.invariant
