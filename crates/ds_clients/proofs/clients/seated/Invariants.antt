-- So many clients are seated, and as many passes taken.
use Rattle.std.proofs.Common.{◌≡◌, ◌+◌, ◌-◌, ◌≤◌, length, map, take, vec_len}
use Rattle.std.specs.Prelude.{All}
use Rattle.std.specs.Vec.{vec_capacity}
use Rattle.ds_base.specs.Limits.{greatest_client}
use Rattle.ds_model.specs.Sessions.{first_session}
use Rattle.ds_protocol.specs.Watermarks.{nothing_seen as no_counts}
use Rattle.ds_store.specs.Passes.{nothing_seen}
use Rattle.ds_clients.proofs.SeatLaws.{SeatedSoFar}
use Rattle.ds_clients.proofs.clients.seated.Given as goal

abbrev pub invariant-loop-mark : goal.invariant-loop-mark
invariant-loop-mark g l = record {
  seated : SeatedSoFar l.shards l.client (map (λ c. c.session) l.clients.items);
  many : vec_len l.clients ≡ l.client;
  left : l.client + length l.mark-iterator.rest.items ≡ greatest_client + 1;
  marks : All (λ m. m ≡ first_session l.shards) l.mark-iterator.rest.items;
  room : greatest_client + 1 ≤ vec_capacity l.clients;
  taken : l.passes.items ≡ take (vec_len l.fn.passes - l.client) l.fn.passes.items;
  new : All (λ p. p ≡ nothing_seen l.shards) l.passes.items;
  none : All (λ m. m ≡ no_counts l.shards) l.missed.items;
  enough : length l.mark-iterator.rest.items ≤ vec_len l.missed;
  capacity : vec_capacity l.passes ≡ vec_capacity l.fn.passes;
}
