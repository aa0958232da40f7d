-- What the passes of the clients so far show.
use Rattle.std.proofs.Common.{map, take}
use Rattle.ds_clients.proofs.KeptLaws.{AreShown}
use Rattle.ds_clients.proofs.kept.shown_by.Given as goal

abbrev pub invariant-loop-client : goal.invariant-loop-client
invariant-loop-client g l = AreShown (map (λ c. c.session) (take l.client-index l.clients)) l.greatest.place l.greatest.next
