use Rattle.std.proofs.Common.{◌≡◌, ◌+◌, ◌++◌, length, map, All, vec_len}
use Rattle.std.specs.Vec.{vec_capacity}
use Rattle.ds_draw.specs.Draws.{SeatView, draws_of}
use Rattle.ds_store_passes.specs.Ending.{commits_of_all, draws_of_all}
use Rattle.ds_store_passes.specs.Passes.{PassParts}
use Rattle.ds_store_passes.proofs.ending.all_seats.Given as goal

abbrev pub invariant-loop-pass : goal.invariant-loop-pass
invariant-loop-pass g l = record {
  many : (vec_len l.commits + length l.pass-iterator.rest.items ≡ length l.fn.passes)
      × (vec_len l.ids + length l.pass-iterator.rest.items ≡ length l.fn.passes);
  room : (vec_capacity l.commits ≡ vec_capacity l.initial.commits) × (vec_capacity l.ids ≡ vec_capacity l.initial.ids);
  words : All (λ (s : SeatView). s.word ≡ g.J.Names.commits) l.commits.items × All (λ (s : SeatView). s.word ≡ g.J.Names.ids) l.ids.items;
  commits : draws_of l.commits.items ++ commits_of_all l.pass-iterator.rest.items ≡ commits_of_all l.fn.passes;
  draws : draws_of l.ids.items ++ draws_of_all l.pass-iterator.rest.items ≡ draws_of_all l.fn.passes;
  counters : map (λ (s : SeatView). s.counter) l.ids.items ++ map (λ (p : PassParts). p.next) l.pass-iterator.rest.items
      ≡ map (λ (p : PassParts). p.next) l.fn.passes;
}
