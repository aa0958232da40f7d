use Rattle.std.proofs.Common.{◌≡◌, [], arith}
use Rattle.ds_clients.proofs.ClientLaws.{all_done}
use Rattle.ds_clients.proofs.clients.clear_texts.Goals as goal

pub returns : goal.returns
returns g c =
    all_done (λ x y. y.session ≡ record x.session { text = [] }) c.args.clients.now c.loop-client.client-items
    c.loop-client.client-index c.loop-client.auto.client-items
    (omega (arith, c.loop-client-test.false, c.loop-client.auto.client-index-end)) c.loop-client.invariant
