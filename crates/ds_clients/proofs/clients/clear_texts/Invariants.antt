use Rattle.std.proofs.Common.{◌≡◌, []}
use Rattle.ds_clients.proofs.ClientLaws.{DoneBelow}
use Rattle.ds_clients.proofs.clients.clear_texts.Given as goal

abbrev pub invariant-loop-client : goal.invariant-loop-client
invariant-loop-client g l =
    DoneBelow (λ c d. d.session ≡ record c.session { text = [] }) l.client-index l.fn.clients l.client-items
