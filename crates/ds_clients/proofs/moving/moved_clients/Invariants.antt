-- The clients so far have moved, and there is room for the others.
use Rattle.std.proofs.Common.{◌≡◌, ◌+◌, ◌≤◌, length, map, vec_len}
use Rattle.std.specs.Vec.{vec_capacity}
use Rattle.ds_clients.proofs.MovingLaws.{MovedSoFar}
use Rattle.ds_clients.proofs.moving.moved_clients.Given as goal

abbrev pub invariant-loop-client : goal.invariant-loop-client
invariant-loop-client g l = record {
  moved : MovedSoFar (map (λ c. c.session) l.fn.clients.items) l.fn.passes.items l.passes.items l.fn.old.items l.old.items
      (map (λ c. c.session) l.client-iterator.rest.items) (map (λ c. c.session) l.moved.items);
  many : length l.client-iterator.rest.items ≤ vec_len l.passes;
  room : vec_len l.moved + length l.client-iterator.rest.items ≤ vec_capacity l.moved;
  space : vec_len l.old + length l.client-iterator.rest.items ≤ vec_capacity l.old;
  capacity : vec_capacity l.passes ≡ vec_capacity l.fn.passes;
  same_space : vec_capacity l.old ≡ vec_capacity l.fn.old;
}
