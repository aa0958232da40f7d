-- What the shards so far gave, and its steps, of which each row took one.
use Rattle.std.proofs.Common.{◌≡◌, ◌+◌, ◌≤◌, length, map, take}
use Rattle.std.specs.Prelude.{All, flat_map, sum_by}
use Rattle.ds_pages.specs.Places.{IsPlaced, placed}
use Rattle.ds_engine.specs.Searches.{bound_in, most_of, shard_rows}
use Rattle.ds_engine.specs.Snapshots.{entities_in}
use Rattle.ds_engine.proofs.searching.search.Given as goal

abbrev pub invariant-loop-snapshot : goal.invariant-loop-snapshot
invariant-loop-snapshot g l = record {
  rows : l.rows.items
      ≡ map (placed l.query.normal.now.merged)
      (flat_map (λ s. shard_rows l.query.normal.now l.query.window.now (entities_in s)) (take l.snapshot-index l.snapshots));
  placed : All (IsPlaced l.query.normal.now.merged) l.rows.items;
  steps : l.steps ≤ l.initial.steps
      + sum_by (λ s. sum_by (λ q. bound_in l.query.window.now (most_of l.query.normal.now l.query.window.now) q s)
      l.query.normal.now.branches) (take l.snapshot-index l.snapshots);
  counted : l.initial.steps + length l.rows.items ≤ l.steps;
}
