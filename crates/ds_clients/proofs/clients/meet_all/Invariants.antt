-- The clients so far have met.
use Rattle.std.proofs.Common.{◌≡◌, length}
use Rattle.ds_client.specs.Meeting.{HasTaken}
use Rattle.ds_clients.proofs.ClientLaws.{DoneBelow}
use Rattle.ds_clients.proofs.clients.meet_all.Given as goal

abbrev pub invariant-loop-client : goal.invariant-loop-client
invariant-loop-client g l =
    DoneBelow (λ c d. HasTaken l.greatest c.session d.session × (d.own ≡ c.own) × (d.session.room ≡ c.session.room)
    × (length d.session.seen.counts ≡ length c.session.seen.counts)) l.client-index l.fn.clients l.client-items
