-- The clients so far have their lines, and the others' are left.
use Rattle.std.proofs.Common.{◌≡◌, ◌+◌, ◌++◌, length, map, take}
use Rattle.ds_clients.proofs.ClientLaws.{DoneBelow}
use Rattle.ds_clients.proofs.clients.hand_out.Given as goal

abbrev pub invariant-loop-own : goal.invariant-loop-own
invariant-loop-own g l = record {
  same : DoneBelow (λ c d. d.session ≡ c.session) l.client l.fn.clients l.clients;
  own : map (λ c. c.own) (take l.client l.clients) ++ l.own-iterator.rest.items ≡ l.fn.lists.items;
  left : l.client + length l.own-iterator.rest.items ≡ length l.clients;
}
