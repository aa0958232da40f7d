-- What the branches so far gave stands behind the other rows, and took its steps, each row one.
use Rattle.std.proofs.Common.{◌≡◌, ◌++◌, ◌+◌, ◌≤◌, length, map, take}
use Rattle.std.specs.Prelude.{All, flat_map, sum_by}
use Rattle.ds_pages.specs.Places.{IsPlaced, placed}
use Rattle.ds_branch.specs.BoundSums.{bound_at}
use Rattle.ds_engine.specs.Searches.{branch_rows, most_of}
use Rattle.ds_engine.specs.Snapshots.{asked_in, entities_in}
use Rattle.ds_engine.proofs.rows.put_shard_rows.Given as goal

abbrev pub invariant-loop-number : goal.invariant-loop-number
invariant-loop-number g l = record {
  rows : l.rows.items ≡ l.initial.rows.items
      ++ map (placed l.query.normal.now.merged) (flat_map (branch_rows l.query.normal.now l.query.window.now (entities_in l.snapshot)) (take l.number l.query.normal.now.branches));
  placed : All (IsPlaced l.query.normal.now.merged) l.rows.items;
  steps : l.steps ≤ l.initial.steps
      + sum_by (λ q. bound_at q l.query.window.now.start l.query.window.now.end (most_of l.query.normal.now l.query.window.now) (asked_in l.snapshot))
      (take l.number l.query.normal.now.branches);
  counted : l.initial.steps + length l.rows.items ≤ l.steps + length l.initial.rows.items;
}
