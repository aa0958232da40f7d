-- The clients so far have room.
use Rattle.std.proofs.Common.{◌≡◌, ◌*◌, ◌≤◌, length}
use Rattle.ds_client.specs.Room.{most_no_memory}
use Rattle.ds_clients.proofs.ClientLaws.{DoneBelow}
use Rattle.ds_clients.proofs.clients.make_rooms.Given as goal

abbrev pub invariant-loop-client : goal.invariant-loop-client
invariant-loop-client g l =
    DoneBelow (λ c d. (d.session ≡ record c.session { room = d.session.room }) × (d.own ≡ c.own)
    × (length d.own * most_no_memory ≤ d.session.room)) l.client-index l.fn.clients l.client-items
