-- The rows of the lanes so far, and that those left are the rows of the shards left.
use Rattle.std.proofs.Common.{◌≡◌, map, take, drop, length}
use Rattle.std.specs.Prelude.{All, flat_map}
use Rattle.ds_pages.specs.Places.{IsPlaced, placed}
use Rattle.ds_engine.specs.Lanes.{AreLanes}
use Rattle.ds_engine.specs.Searches.{shard_rows}
use Rattle.ds_engine.specs.Snapshots.{entities_in}
use Rattle.ds_engine.proofs.wide.joined.Given as goal

abbrev pub invariant-loop-lane : goal.invariant-loop-lane
invariant-loop-lane g l = record {
  rows : l.rows.items
      ≡ map (placed l.query.normal.now.merged) (flat_map (λ s. shard_rows l.query.normal.now l.query.window.now (entities_in s)) (take (length l.yielded) l.snapshots));
  placed : All (IsPlaced l.query.normal.now.merged) l.rows.items;
  left : AreLanes l.query.normal.now l.query.window.now (drop (length l.yielded) l.snapshots) l.lane-iterator.rest.items;
}
