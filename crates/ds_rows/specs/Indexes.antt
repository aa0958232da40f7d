-- The indexes of the tables, and those in which an entity has rows.
use Rattle.std.specs.Prelude.{ℕ, Bool, true, false, ◌&&◌, List, [], ◌∷◌, ◌++◌, cond, filter, flat_map, map}
use Rattle.std.specs.List.{enumerate_from}
use Rattle.ds_base.specs.declared.column.Column.{Column}
use Rattle.ds_entity.specs.declared.entity.Property.{Property}
use Rattle.ds_entity.specs.Entities.{EntityParts}
use Rattle.ds_indexdef.specs.declared.IndexDef.{IndexDef}
use Rattle.ds_rows.specs.IndexedValues.{kind_in}
use Rattle.ds_base.specs.KeyColumn.{is_key_name}

-- an index, of all entities or of those of one kind
pub data RowIndex : Type 0 where
  -- all entities by key
  AllByKey : RowIndex
  -- the entities of a kind by key
  KindByKey : RowIndex
  -- the entities of a kind by the property of this name, ascending or descending
  ByProperty : List ℕ → Bool → RowIndex
  -- the composite index of a definition, which stands at this place of the list of definitions
  Composite : ℕ → IndexDef → RowIndex

-- ---- columns

-- the columns of a definition without a `__key__` at their end, which takes the place of the key that ends each row
abbrev pub front_columns : List Column → List Column
front_columns [] = []
front_columns (c ∷ []) = cond (is_key_name c.name) [] (c ∷ [])
front_columns (c ∷ d ∷ cs) = c ∷ front_columns (d ∷ cs)

-- the key that ends each row ascends, unless the definition names it at the end of its columns and descending
abbrev pub last_key_descends : List Column → Bool
last_key_descends [] = false
last_key_descends (c ∷ []) = is_key_name c.name && c.descending
last_key_descends (c ∷ d ∷ cs) = last_key_descends (d ∷ cs)

-- the directions of an index's columns: true for a descending one
abbrev pub directions : RowIndex → List Bool
directions (ByProperty name descending) = descending ∷ []
directions (Composite n d) = map (λ (c : Column). c.descending) (front_columns d.columns)
directions _ = []

abbrev pub index_key_descends : RowIndex → Bool
index_key_descends (Composite n d) = last_key_descends d.columns
index_key_descends _ = false

-- has the index a row for each ancestor of an entity?
abbrev pub has_ancestor : RowIndex → Bool
has_ancestor (Composite n d) = d.ancestor
has_ancestor _ = false

-- ---- the indexes of an entity

-- each property has an ascending and a descending index
abbrev pub property_indexes : Property → List RowIndex
property_indexes p = ByProperty p.name false ∷ ByProperty p.name true ∷ []

-- the composite indexes of the definitions, each with its place, of the key's kind
abbrev pub composite_indexes : List IndexDef → EntityParts → List RowIndex
composite_indexes defs e =
    map (λ (placed : ℕ × IndexDef). Composite placed.0 placed.1)
    (filter (λ (placed : ℕ × IndexDef). kind_in placed.1.kind e.key) (enumerate_from 0 defs))

-- the indexes in which an entity may have rows
abbrev pub indexes_of : List IndexDef → EntityParts → List RowIndex
indexes_of defs e = AllByKey ∷ KindByKey ∷ (flat_map property_indexes e.properties ++ composite_indexes defs e)
