-- The rows that an entity has in the indexes, as values and keys and as bytes.
use Rattle.std.specs.Prelude.{ℕ, ◌/◌, ◌%◌, ◌^◌, true, false, List, [], ◌∷◌, ◌++◌, Option, Some, None, cond, flat_map, map}
use Rattle.ds_base.specs.declared.key.Elem.{Elem}
use Rattle.ds_base.specs.declared.index_value.IndexValue.{IndexValue}
use Rattle.ds_base.specs.Keys.{KeyParts}
use Rattle.ds_entity.specs.Entities.{EntityParts}
use Rattle.ds_indexdef.specs.declared.IndexDef.{IndexDef}
use Rattle.ds_bytes.specs.Encoding.{escaped, key_bytes}
use Rattle.ds_bytes.specs.Rows.{RowParts, row_bytes}
use Rattle.ds_rows.specs.IndexedValues.{kind_of, indexed_values, column_values, each_way}
use Rattle.ds_rows.specs.Indexes.{RowIndex, AllByKey, KindByKey, ByProperty, Composite, directions, index_key_descends, has_ancestor}
use Rattle.ds_rows.specs.Indexes.{front_columns, indexes_of}

-- ---- rows as values and keys

-- a row of an index: an ancestor where the index has the ancestor flag, one value per column, and the entity's key
pub record IndexRow : Type 0 where
  pub ancestor : Option KeyParts
  pub parts : RowParts

-- the paths that begin a path, from its root to itself
abbrev pub paths_to : List Elem → List (List Elem)
paths_to [] = []
paths_to (e ∷ es) = (e ∷ []) ∷ map (λ path. e ∷ path) (paths_to es)

-- the key's ancestors, from its root to itself
abbrev pub ancestors : KeyParts → List KeyParts
ancestors k = map (λ path. record { namespace = k.namespace; elems = path }) (paths_to k.elems)

-- an index with the ancestor flag has each row once for each ancestor of the entity
abbrev pub row_ancestors : RowIndex → KeyParts → List (Option KeyParts)
row_ancestors i k = cond (has_ancestor i) (map (λ a. Some a) (ancestors k)) (None ∷ [])

-- what the entity has in each column of an index
abbrev pub index_lists : EntityParts → RowIndex → List (List IndexValue)
index_lists e (ByProperty name descending) = indexed_values e name ∷ []
index_lists e (Composite n d) = map (λ c. column_values e c.name) (front_columns d.columns)
index_lists e _ = []

abbrev pub row_with : KeyParts → Option KeyParts → List IndexValue → IndexRow
row_with k a values = record { ancestor = a; parts = record { values = values; key = k } }

-- one row for each ancestor and each way to take one of the values in each column
abbrev pub index_rows : EntityParts → RowIndex → List IndexRow
index_rows e i = flat_map (λ a. map (row_with e.key a) (each_way (index_lists e i))) (row_ancestors i e.key)

-- ---- rows as bytes

-- a place below 2^32 as 4 bytes, highest first
abbrev pub four_bytes : ℕ → List ℕ
four_bytes n = n / 2 ^ 24 % 256 ∷ n / 2 ^ 16 % 256 ∷ n / 2 ^ 8 % 256 ∷ n % 256 ∷ []

-- What the rows of an index begin with in a namespace, and those of the indexes of a kind in that kind: so the rows of one
-- namespace, kind and property stand together. A definition's place tells its kind.
abbrev pub index_front : RowIndex → List ℕ → List ℕ → List ℕ
index_front AllByKey namespace kind = 0x00 ∷ escaped namespace
index_front KindByKey namespace kind = 0x01 ∷ escaped namespace ++ escaped kind
index_front (ByProperty name false) namespace kind = 0x02 ∷ escaped namespace ++ (escaped kind ++ escaped name)
index_front (ByProperty name true) namespace kind = 0x03 ∷ escaped namespace ++ (escaped kind ++ escaped name)
index_front (Composite n d) namespace kind = 0x04 ∷ escaped namespace ++ four_bytes n

abbrev pub ancestor_bytes : Option KeyParts → List ℕ
ancestor_bytes None = []
ancestor_bytes (Some a) = key_bytes a

-- the ancestor where there is one, the columns in their directions, and the key
abbrev pub row_rest : RowIndex → IndexRow → List ℕ
row_rest i r = ancestor_bytes r.ancestor ++ row_bytes (directions i) (index_key_descends i) r.parts

-- a row of an index
abbrev pub index_row_bytes : RowIndex → IndexRow → List ℕ
index_row_bytes i r = index_front i r.parts.key.namespace (kind_of r.parts.key) ++ row_rest i r

-- the rows of an entity in an index
abbrev pub rows_in : EntityParts → RowIndex → List (List ℕ)
rows_in e i = map (index_row_bytes i) (index_rows e i)

-- all rows of an entity
abbrev pub rows_of : List IndexDef → EntityParts → List (List ℕ)
rows_of defs e = flat_map (rows_in e) (indexes_of defs e)
