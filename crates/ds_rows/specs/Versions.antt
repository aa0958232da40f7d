-- What tables stand for: versions of entities, and at each stamp the rows of those that are seen.
use Rattle.std.specs.Prelude.{ℕ, Bool, true, ◌&&◌, not, nat_le, nat_lt, List, Option, Some, None, All, count_by, filter, find, flat_map}
use Rattle.std.specs.Prelude.{map}
use Rattle.std.specs.List.{IsDistinct}
use Rattle.std.specs.Ordering.{is_lt}
use Rattle.ds_base.specs.KeyOrder.{bytes_cmp, same_key}
use Rattle.ds_entity.specs.Entities.{EntityParts}
use Rattle.ds_base.specs.Sorting.{sorted_by}
use Rattle.ds_indexdef.specs.declared.IndexDef.{IndexDef}
use Rattle.ds_indexdef.specs.Definitions.{AreDefs}
use Rattle.ds_rows.specs.Indexable.{IsIndexable}
use Rattle.ds_rows.specs.Rows.{rows_of}

-- an entity as one write left it, from the stamp of that write on, up to the stamp that replaced or deleted it
pub record Version : Type 0 where
  pub entity : EntityParts
  pub from : ℕ
  pub until : Option ℕ

abbrev pub is_before : Option ℕ → ℕ → Bool
is_before None stamp = true
is_before (Some until) stamp = nat_lt stamp until

-- is the version the one that stands at the stamp?
abbrev pub is_seen : ℕ → Version → Bool
is_seen stamp v = nat_le v.from stamp && is_before v.until stamp

-- the entities at a stamp
abbrev pub entities_at : ℕ → List Version → List EntityParts
entities_at stamp versions = map (λ (v : Version). v.entity) (filter (is_seen stamp) versions)

-- the rows that are seen at a stamp
abbrev pub seen_rows : List IndexDef → ℕ → List Version → List (List ℕ)
seen_rows defs stamp versions = flat_map (rows_of defs) (entities_at stamp versions)

-- the rows of the versions that aren't
abbrev pub unseen_rows : List IndexDef → ℕ → List Version → List (List ℕ)
unseen_rows defs stamp versions =
    flat_map (λ (v : Version). rows_of defs v.entity) (filter (λ v. not (is_seen stamp v)) versions)

-- ---- seeks

-- the row isn't below `from`
abbrev pub is_from : List ℕ → List ℕ → Bool
is_from from row = not (is_lt (bytes_cmp row from))

-- the row is below `end`; without an `end` each is
abbrev pub is_below : Option (List ℕ) → List ℕ → Bool
is_below None row = true
is_below (Some end) row = is_lt (bytes_cmp row end)

-- the row isn't above `found`; without a `found` each is so
abbrev pub is_up_to : Option (List ℕ) → List ℕ → Bool
is_up_to None row = true
is_up_to (Some found) row = not (is_lt (bytes_cmp found row))

-- the first row, by bytes, that isn't below `from` and is below `end`
abbrev pub first_row : List ℕ → Option (List ℕ) → List (List ℕ) → Option (List ℕ)
first_row from end rows = find (λ row. is_from from row && is_below end row) (sorted_by bytes_cmp rows)

-- how many rows of that range aren't above the one that was found
abbrev pub rows_passed : List ℕ → Option (List ℕ) → Option (List ℕ) → List (List ℕ) → ℕ
rows_passed from end found rows = count_by (λ row. (is_from from row && is_below end row) && is_up_to found row) rows

-- ---- what tables keep

-- distinct definitions, entities that have rows, and at the stamp one entity of each key
pub record AreTables (defs : List IndexDef) (stamp : ℕ) (versions : List Version) : Type 0 where
  pub definitions : AreDefs defs
  pub indexable : All (λ (v : Version). IsIndexable v.entity) versions
  pub one_each : IsDistinct same_key (map (λ (e : EntityParts). e.key) (entities_at stamp versions))
