use Rattle.std.proofs.Common.{◌≡◌, [], length, replicate, All}
use Rattle.ds_base.specs.Limits.{first_drawn_id}
use Rattle.ds_draw.specs.Draws.{SeatView, new_seat}
use Rattle.ds_store_passes.specs.Passes.{nothing_seen}
use Rattle.ds_store_passes.proofs.making.all_passes.Given as goal

abbrev pub invariant-loop-pass : goal.invariant-loop-pass
invariant-loop-pass g l = record {
  readers : All (λ r. (r.hub ≡ g.J.Names.journal) × (r.known ≡ [])) l.readers.items;
  shards : l.shards.items ≡ l.initial.shards.items;
  commits : All (λ (s : SeatView). s ≡ new_seat g.J.Names.commits 1) l.commits;
  ids : All (λ (s : SeatView). s ≡ new_seat g.J.Names.ids first_drawn_id) l.ids;
  passes : l.list ≡ replicate l._pass (nothing_seen (length g.J.Names.shards));
}
