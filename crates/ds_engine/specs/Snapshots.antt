-- A shard at one of the stamps that it keeps.
use Rattle.std.specs.Prelude.{ℕ, List, length, map}
use Rattle.ds_entity.specs.Entities.{EntityParts}
use Rattle.ds_indexdef.specs.declared.IndexDef.{IndexDef}
use Rattle.ds_log.specs.declared.Entry.{Entry}
use Rattle.ds_branch.specs.BoundSums.{Asked}
use Rattle.ds_rows.specs.Versions.{entities_at}
use Rattle.ds_shard.specs.Shards.{ShardParts, shard_of_entries}

pub record SnapshotParts : Type 0 where
  pub shard : ShardParts
  pub stamp : ℕ

-- the entities that are seen at the stamp
abbrev pub entities_in : SnapshotParts → List EntityParts
entities_in s = entities_at s.stamp s.shard.versions

-- what a bound on the steps of an answer speaks of
abbrev pub asked_in : SnapshotParts → Asked
asked_in s = record { stamp = s.stamp; versions = s.shard.versions }

-- a shard that absorbed these entries, with so many of them seen
abbrev pub snapshot_of : List IndexDef → ℕ → List Entry → ℕ → SnapshotParts
snapshot_of definitions window entries stamp = record { shard = shard_of_entries definitions window entries; stamp = stamp }

-- the shard with all that it absorbed
abbrev pub newest_of : List IndexDef → ℕ → List Entry → SnapshotParts
newest_of definitions window entries = snapshot_of definitions window entries (length entries)

-- the shards of these lists of entries, each so
abbrev pub newest : List IndexDef → ℕ → List (List Entry) → List SnapshotParts
newest definitions window lists = map (newest_of definitions window) lists
