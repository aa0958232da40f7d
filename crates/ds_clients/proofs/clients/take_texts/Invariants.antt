-- The texts so far were moved.
use Rattle.std.proofs.Common.{◌≡◌, [], length}
use Rattle.ds_clients.proofs.ClientLaws.{DoneBelow}
use Rattle.ds_clients.proofs.TextLaws.{MovedBelow}
use Rattle.ds_clients.proofs.clients.take_texts.Given as goal

abbrev pub invariant-loop-i : goal.invariant-loop-i
invariant-loop-i g l =
    DoneBelow (λ c d. d.session ≡ record c.session { text = []; room = 0 }) l.i l.fn.clients l.clients
    × MovedBelow (λ c. c.session.text) l.i l.fn.clients l.texts × (length l.texts ≡ length l.fn.texts)
