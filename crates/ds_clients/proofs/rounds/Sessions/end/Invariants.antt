-- The passes of the sessions so far were put behind the others.
use Rattle.std.proofs.Common.{◌≡◌, ◌+◌, ◌++◌, ◌≤◌, length, map, vec_len}
use Rattle.std.specs.Vec.{vec_capacity}
use Rattle.ds_clients.specs.Runs.{passes_of}
use Rattle.ds_clients.proofs.rounds.Sessions.end.Given as goal

abbrev pub invariant-loop-client : goal.invariant-loop-client
invariant-loop-client g l = record {
  passes : l.passes.items ++ passes_of (map (λ c. c.session) l.client-iterator.rest.items) ≡ l.fn.passes.items ++ passes_of l.fn.self;
  room : vec_len l.passes + length l.client-iterator.rest.items ≤ vec_capacity l.passes;
  capacity : vec_capacity l.passes ≡ vec_capacity l.fn.passes;
}
