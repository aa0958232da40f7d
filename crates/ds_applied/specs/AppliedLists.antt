-- What the shards of one process have applied: per shard the entries that the journal gives it, how many are applied, and the
-- entities that those leave.
use Rattle.std.specs.Prelude.{◌≡◌, ℕ, zero, suc, ◌≤◌, List, [], ◌∷◌, ◌++◌, length, take, map, ⊤}
use Rattle.ds_entity.specs.Entities.{EntityParts}
use Rattle.ds_log.specs.declared.Commit.{Commit}
use Rattle.ds_log.specs.declared.Entry.{Entry}
use Rattle.ds_log.specs.declared.Write.{Write}
use Rattle.ds_log.specs.After.{after}
use Rattle.ds_log.specs.Logs.{entry_writes, shard_list}
pub use Rattle.ds_model.specs.ByKey.{left_by, shard_view, shard_views}
use Rattle.ds_model.specs.Worlds.{shard_lists}
use Rattle.ds_model.specs.ByKey.{sorted_by_key}

pub record AppliedParts : Type 0 where
  -- the number of shards
  pub shards : ℕ
  -- how many commits of the journal were looked at
  pub commits : ℕ
  -- the entries of these commits, one list per shard
  pub lists : List (List Entry)
  -- how many entries of each shard are applied
  pub counts : List ℕ

-- the lists are those of the journal's first commits
pub record Follows (journal : List Commit) (a : AppliedParts) : Type 0 where
  pub within : a.commits ≤ length journal
  pub lists : a.lists ≡ shard_lists a.shards (take a.commits journal)

-- how many entries the journal's first m commits give a shard
abbrev pub entries_by : List Commit → ℕ → ℕ → ℕ → ℕ
entries_by journal shards shard m = length (shard_list (take m journal) shard shards)

-- one count per list, none above the list's length
abbrev pub AreCounts : List (List Entry) → List ℕ → Type 0
AreCounts [] [] = ⊤
AreCounts (entries ∷ lists) (count ∷ counts) = (count ≤ length entries) × AreCounts lists counts
AreCounts _ _ = ⊥

-- ---- one shard

-- what a shard keeps: its entries, how many of them are applied, and how many writes of the next entry, which is begun where an
-- application ended when out of memory; `spare` entries can be put behind its own without memory
pub record AppliedShard : Type 0 where
  pub entries : List Entry
  pub applied : ℕ
  pub begun : ℕ
  pub spare : ℕ

abbrev pub entries_of : List AppliedShard → List (List Entry)
entries_of = map (λ s. s.entries)

abbrev pub applied_of : List AppliedShard → List ℕ
applied_of = map (λ s. s.applied)

-- the writes of the entry at a place, counted from 0; none behind the last
abbrev pub writes_at : List Entry → ℕ → List Write
writes_at [] i = []
writes_at (e ∷ es) zero = e.writes
writes_at (e ∷ es) (suc i) = writes_at es i

-- the kept entities are those that the applied entries and the begun writes leave, by key
pub record IsShard (entries : List Entry) (applied begun : ℕ) (entities : List EntityParts) : Type 0 where
  pub within : applied ≤ length entries
  pub begun_within : begun ≤ length (writes_at entries applied)
  pub kept : entities ≡ sorted_by_key (after (entry_writes (take applied entries) ++ take begun (writes_at entries applied)))
