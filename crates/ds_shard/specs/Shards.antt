-- What a shard holds, what an entry makes of it, and which entities it stands for at each stamp that it keeps.
use Rattle.std.specs.Prelude.{◌≡◌, ℕ, ◌+◌, ◌-◌, ◌≤◌, ◌^◌, Bool, ◌&&◌, nat_le, nat_lt, if◌then◌else◌, List, [], fold, length, take, flat_map}
use Rattle.ds_entity.specs.Entities.{EntityParts}
use Rattle.ds_entity.specs.EntityOrder.{sorted_by_key}
use Rattle.ds_indexdef.specs.declared.IndexDef.{IndexDef}
use Rattle.ds_log.specs.declared.Entry.{Entry}
use Rattle.ds_log.specs.After.{after}
use Rattle.ds_log.specs.Logs.{entry_writes}
use Rattle.ds_rows.specs.Rows.{rows_of}
use Rattle.ds_rows.specs.Versions.{Version, entities_at, seen_rows}
use Rattle.ds_shard.specs.Histories.{written, trimmed}
use Rattle.std.specs.List.{AllByRecursion as Each}
use Rattle.ds_shard.specs.Contents.{ContentsParts, IsGiven, AreKept}

pub record ShardParts : Type 0 where
  -- the definitions of composite indexes
  pub definitions : List IndexDef
  -- how many stamps it keeps
  pub window : ℕ
  -- how many entries it has absorbed: the stamp of the last one
  pub count : ℕ
  -- the commit of the last absorbed entry, 0 where there is none
  pub last : ℕ
  -- the versions that weren't replaced or deleted at or before the floor: by key, those of one key in the order of their stamps
  pub versions : List Version

-- the least stamp of the window, which is as many stamps up to the count: 0 as long as the count is below the window
abbrev pub floor_of : ℕ → ℕ → ℕ
floor_of window count = if nat_lt count window then 0 else count - window + 1

abbrev pub floor : ShardParts → ℕ
floor s = floor_of s.window s.count

-- the stamps that it keeps
abbrev pub keeps : ShardParts → ℕ → Bool
keeps s stamp = nat_le (floor s) stamp && nat_le stamp s.count

-- no entry absorbed
abbrev pub empty : List IndexDef → ℕ → ShardParts
empty defs window = record { definitions = defs; window = window; count = 0; last = 0; versions = [] }

-- An entry is absorbed at the next stamp: its writes are done there in turn, and then the versions go that no stamp of the
-- window sees any more.
abbrev pub absorbed : ShardParts → Entry → ShardParts
absorbed s entry = record {
  definitions = s.definitions;
  window = s.window;
  count = s.count + 1;
  last = entry.commit;
  versions = trimmed (floor_of s.window (s.count + 1)) (fold (written (s.count + 1)) s.versions entry.writes);
}

-- a shard that absorbed these entries
abbrev pub shard_of_entries : List IndexDef → ℕ → List Entry → ShardParts
shard_of_entries defs window = fold absorbed (empty defs window)

-- what holds of a shard's parts
pub record IsShard (window count : ℕ) (c : ContentsParts) : Type 0 where
  pub least : 1 ≤ window
  pub most : window ≤ 65536
  pub bounded : count ≤ 2 ^ 62
  pub given : Each (IsGiven count) c.entities
  pub floor : c.table.floor ≡ floor_of window count
  pub kept : AreKept (count + 1) c
  pub outliving : trimmed (floor_of window count) c.entities ≡ c.entities

-- ---- what it stands for

-- the commit of the last entry, 0 where there is none
abbrev pub last_commit : List Entry → ℕ
last_commit = fold (λ m entry. entry.commit) 0

-- A shard with these definitions and this window stands, at each stamp that it keeps, for what as many of its entries leave, and
-- for the rows of those entities. It holds no version that was replaced or deleted at or before the floor.
pub record StandsFor (defs : List IndexDef) (stamps : ℕ) (entries : List Entry) (s : ShardParts) : Type 0 where
  pub definitions : s.definitions ≡ defs
  pub window : s.window ≡ stamps
  pub count : s.count ≡ length entries
  pub last : s.last ≡ last_commit entries
  pub entities : (stamp : ℕ) → floor s ≤ stamp → stamp ≤ s.count
      → entities_at stamp s.versions ≡ sorted_by_key (after (entry_writes (take stamp entries)))
  pub rows : (stamp : ℕ) → floor s ≤ stamp → stamp ≤ s.count
      → seen_rows s.definitions stamp s.versions ≡ flat_map (rows_of s.definitions)
      (sorted_by_key (after (entry_writes (take stamp entries))))
  pub outliving : trimmed (floor s) s.versions ≡ s.versions

-- so it is with each shard that is made empty and absorbs entries
abbrev pub EntriesAreKept : Type 0
EntriesAreKept = (defs : List IndexDef) (window : ℕ) → 1 ≤ window → (entries : List Entry)
    → StandsFor defs window entries (shard_of_entries defs window entries)
