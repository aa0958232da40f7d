-- The entities of a shard and the table of their rows, which writes change together.
use Rattle.std.specs.Prelude.{◌≡◌, ℕ, ◌+◌, ◌≤◌, ◌<◌, Bool, List, [], ◌∷◌, Some, IsTrue, if◌then◌else◌}
use Rattle.std.specs.List.{filter_map, list_any}
use Rattle.ds_base.specs.Keys.{KeyParts}
use Rattle.std.specs.declared.cmp.Ordering.{Ordering}
use Rattle.std.specs.Ordering.{on}
use Rattle.ds_base.specs.KeyOrder.{key_cmp, same_key}
use Rattle.ds_base.specs.SortingLaws.{Ascends}
use Rattle.ds_indexdef.specs.declared.IndexDef.{IndexDef}
use Rattle.ds_indexdef.specs.Definitions.{AreDefs}
use Rattle.ds_rows.specs.Indexable.{IsIndexable}
use Rattle.ds_rows.specs.Versions.{Version}
use Rattle.ds_table.specs.Blocks.{Tabled, versions}
use Rattle.ds_table.specs.Versions as table
use Rattle.ds_shard.specs.Histories.{BeginsBy, EndsWithin, Precedes, before_stamp, trimmed}
use Rattle.std.specs.List.{AllByRecursion as Each}
use Rattle.ds_shard.specs.Rows.{rows_of_versions}
use Rattle.ds_shard.specs.declared.expiring.Expiry.{Expiry}
use Rattle.ds_shard.specs.Expiries.{AreBy, AreNoted, others}

pub record ContentsParts : Type 0 where
  pub definitions : List IndexDef
  pub table : Tabled
  -- the versions of entities
  pub entities : List Version
  -- the ends that were noted
  pub ends : List Expiry

-- how many elements pass the test
abbrev pub counted : {X : Type 0} → (X → Bool) → List X → ℕ
counted {X = X} p [] = 0
counted {X = X} p (x ∷ xs) = (if p x then 1 else 0) + counted p xs

-- two lists have the same elements, each as often: so many of both pass each test
abbrev pub HaveSame : {X : Type 0} → List X → List X → Type 0
HaveSame {X = X} xs ys = (p : X → Bool) → counted p xs ≡ counted p ys

-- no stamp of the version is above this one
pub record IsGiven (stamp : ℕ) (v : Version) : Type 0 where
  pub begins : v.from ≤ stamp
  pub ends : EndsWithin stamp v.until

-- every stamp of the version is below this one
abbrev pub IsGivenBefore : ℕ → Version → Type 0
IsGivenBefore stamp v = (given : ℕ) × (stamp ≡ given + 1) × IsGiven given v

-- versions compare by the keys of their entities
abbrev pub version_cmp : Version → Version → Ordering
version_cmp = on (λ (v : Version). v.entity.key) key_cmp

-- of two versions of one key the one precedes the other
abbrev pub PrecedesOwn : Version → Version → Type 0
PrecedesOwn v w = IsTrue (same_key v.entity.key w.entity.key) → Precedes v w

-- the versions of each key are a history
abbrev pub AreHistories : List Version → Type 0
AreHistories [] = Unit {0}
AreHistories (v ∷ vs) = Each (PrecedesOwn v) vs × AreHistories vs

-- The table has the rows of the versions that outlive its floor, and no others; the end of each version that ended is noted; all
-- stamps that were given are at most this one.
pub record AreKept (stamp : ℕ) (c : ContentsParts) : Type 0 where
  pub definitions : AreDefs c.definitions
  pub indexable : Each (λ (v : Version). IsIndexable v.entity) c.entities
  pub given : Each (IsGiven stamp) c.entities
  pub ascend : Ascends version_cmp c.entities
  pub histories : AreHistories c.entities
  pub rows : HaveSame (versions c.table) (rows_of_versions c.definitions (trimmed c.table.floor c.entities))
  pub noted : AreNoted c.ends c.entities
  pub ends : AreBy stamp c.ends
  pub last : c.table.last ≤ stamp
  pub least : c.table.least ≤ stamp
  pub least_undone : c.table.least_undone ≤ stamp
  pub floor : c.table.floor < stamp
  pub a_stamp : stamp < table.never

-- the versions of these keys before the writes at the stamp, and all others
abbrev pub all_undone : ℕ → List KeyParts → List Version → List Version
all_undone stamp keys = filter_map (λ v. if list_any (same_key v.entity.key) keys then before_stamp stamp v else Some v)

-- what was done at the stamp can be taken back
pub record CanUndo (stamp : ℕ) (c : ContentsParts) : Type 0 where
  pub begun : Each (BeginsBy stamp) c.entities
  pub ends : AreBy stamp c.ends
  pub last : c.table.last ≤ stamp
  pub least : c.table.least ≤ stamp
  pub least_undone : c.table.least_undone ≤ stamp
  pub a_stamp : stamp < table.never

-- To take back what was done at the stamp leads from the one to what it leads from the other to: in the table, in the entities
-- where those of all these keys are taken back, and in the ends.
pub record LeadBack (stamp : ℕ) (keys : List KeyParts) (c d : ContentsParts) : Type 0 where
  pub table : table.undone stamp (versions d.table) ≡ table.undone stamp (versions c.table)
  pub entities : all_undone stamp keys d.entities ≡ all_undone stamp keys c.entities
  pub ends : others stamp d.ends ≡ others stamp c.ends
  pub floor : d.table.floor ≡ c.table.floor
  pub least : d.table.least ≡ c.table.least
  pub least_undone : d.table.least_undone ≡ c.table.least_undone
  pub definitions : d.definitions ≡ c.definitions

-- a step that leads back, whatever other keys are taken back as well
abbrev pub LeadsBack : ℕ → KeyParts → ContentsParts → ContentsParts → Type 0
LeadsBack stamp k c d = ((keys : List KeyParts) → IsTrue (list_any (same_key k) keys) → LeadBack stamp keys c d) × CanUndo stamp d

-- it was taken back
pub record IsBack (stamp : ℕ) (c d : ContentsParts) : Type 0 where
  pub entities : d.entities ≡ c.entities
  pub definitions : d.definitions ≡ c.definitions
  pub floor : d.table.floor ≡ c.table.floor
  pub kept : AreKept stamp d

-- stamps up to this one were given, and the next one may be
pub record IsTrimmed (stamp : ℕ) (c : ContentsParts) : Type 0 where
  pub given : Each (IsGiven stamp) c.entities
  pub kept : AreKept (stamp + 1) c
