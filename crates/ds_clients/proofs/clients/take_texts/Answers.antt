use Rattle.std.proofs.Common.{◌≡◌, [], ◌∙◌, arith}
use Rattle.ds_clients.proofs.ClientLaws.{all_done}
use Rattle.ds_clients.proofs.TextLaws.{all_moved}
use Rattle.ds_clients.proofs.clients.take_texts.Goals as goal

pub returns-clause-texts : goal.returns-clause-texts
returns-clause-texts g c =
    all_moved (λ x. x.session.text) c.args.clients.now c.loop-i.texts c.loop-i.i (c.loop-i.invariant.2 ∙ c.requires.many)
    (omega (arith, c.loop-i-test.false, c.loop-i.auto.i-end)) c.loop-i.invariant.1

pub returns-clause-clients : goal.returns-clause-clients
returns-clause-clients g c =
    all_done (λ x y. y.session ≡ record x.session { text = []; room = 0 }) c.args.clients.now c.loop-i.clients c.loop-i.i
    c.loop-i.auto.clients (omega (arith, c.loop-i-test.false, c.loop-i.auto.i-end)) c.loop-i.invariant.0
