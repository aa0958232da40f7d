-- What one shard gives of a query that searches all shards at once.
use Rattle.std.specs.Prelude.{◌≡◌, List, [], ◌∷◌, All, map, Option, Some, None}
use Rattle.ds_query.specs.declared.branch.Normal.{Normal}
use Rattle.ds_query.specs.declared.branch.Window.{Window}
use Rattle.ds_query.specs.declared.row.Row.{Row}
use Rattle.ds_pages.specs.Places.{IsPlaced, placed}
use Rattle.ds_engine.specs.Searches.{shard_rows}
use Rattle.ds_engine.specs.Snapshots.{SnapshotParts, entities_in}

-- the rows that the shard gives, with their places
pub record AreLaneRows (n : Normal) (w : Window) (s : SnapshotParts) (rows : List Row) : Type 0 where
  pub are : rows ≡ map (placed n.merged) (shard_rows n w (entities_in s))
  pub placed : All (IsPlaced n.merged) rows

-- they are, or there was no memory
abbrev pub IsLaneOf : Normal → Window → SnapshotParts → Option (List Row) → Type 0
IsLaneOf n w s None = Unit {0}
IsLaneOf n w s (Some rows) = AreLaneRows n w s rows

-- they are so of all shards
abbrev pub AreLanes : Normal → Window → List SnapshotParts → List (Option (List Row)) → Type 0
AreLanes n w [] [] = Unit {0}
AreLanes n w (s ∷ snapshots) (lane ∷ lanes) = IsLaneOf n w s lane × AreLanes n w snapshots lanes
AreLanes n w [] (lane ∷ lanes) = ⊥
AreLanes n w (s ∷ snapshots) [] = ⊥
