-- What a query without an ancestor tells of all shards: it counts all entries that its caller knows then.
use Rattle.std.specs.Prelude.{◌≡◌, ℕ, ◌+◌, List, [], ◌∷◌, length, map, max, Option, Some, None, ⊤}
use Rattle.ds_entity.specs.declared.results.Item.{Item}
use Rattle.ds_entity.specs.declared.results.Seen.{Seen}
use Rattle.ds_entity.specs.declared.results.Seen.TheVariants as seen
use Rattle.ds_indexdef.specs.declared.IndexDef.{IndexDef}
use Rattle.ds_query.specs.declared.branch.Normal.{Normal}
use Rattle.ds_query.specs.declared.branch.Window.{Window}
use Rattle.ds_query.specs.declared.row.Place.{Place}
use Rattle.ds_hub.specs.Holding.{AllBelong, Slotted}
use Rattle.ds_log.specs.declared.Entry.{Entry}
use Rattle.ds_shard.specs.States.{IsOfShard, ShardPlace, StateParts, begun}
use Rattle.ds_model.specs.Sessions.{counted_place}
use Rattle.ds_model.specs.Views.{global_view}
use Rattle.ds_engine.specs.Searches.{IsResultOf}
use Rattle.ds_engine.specs.Snapshots.{SnapshotParts}

-- The slot is of a hub that begins with a shard that has absorbed nothing, with these definitions and so many stamps kept, which is read on
-- ledgers of so many parts.
abbrev pub HasBegun : ℕ → List IndexDef → ℕ → Slotted StateParts Entry StateParts → Type 0
HasBegun ledger definitions kept slot = (place : ShardPlace) × (slot.start ≡ Some (begun ledger place definitions kept))

-- the greatest commit of the last entries
abbrev pub greatest_last : List SnapshotParts → ℕ
greatest_last [] = 0
greatest_last (s ∷ snapshots) = max s.shard.last (greatest_last snapshots)

-- what was looked at are all entries of these lists, and this is the greatest commit of their last entries
pub record IsCounted (lists : List (List Entry)) (saw : Seen) (beside : ℕ) : Type 0 where
  pub counts : saw ≡ seen.Counts (map length lists)
  pub commit : beside ≡ counted_place lists (map length lists)

-- a hub begins with the shard of this place
abbrev pub BeginsAt : ShardPlace → Option StateParts → Type 0
BeginsAt place None = ⊥
BeginsAt place (Some start) = start.place ≡ place

-- the slots are of the hubs of shards by number, from a first one on, of so many
abbrev pub AreInPlace : ℕ → ℕ → List (Slotted StateParts Entry StateParts) → Type 0
AreInPlace shards first [] = ⊤
AreInPlace shards first (slot ∷ slots) =
    BeginsAt (record { shards = shards; number = first }) slot.start × AreInPlace shards (first + 1) slots

-- all entries that are known of the slot's shard are of this shard
abbrev pub KnowsOwn : Slotted StateParts Entry StateParts → Type 0
KnowsOwn slot = AllBelong (λ start entry. IsOfShard start.place entry) slot.start slot.known

-- what was found are the results over the global view of all entries of these lists
abbrev pub FindsGlobally : List (List Entry) → Normal → Window → List Item → Option Place → Type 0
FindsGlobally lists n w results next = IsResultOf n w (global_view lists (map length lists)) results next
