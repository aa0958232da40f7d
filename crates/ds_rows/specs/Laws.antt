-- What is claimed of the bytes of rows.
use Rattle.std.specs.Prelude.{◌≡◌, ◌≢◌, ℕ, ◌+◌, ◌<◌, Bool, true, false, List, [], ◌∷◌, ◌++◌, All, Option, Some, None, get_or}
use Rattle.std.specs.Prelude.{length, IsTrue}
use Rattle.std.specs.declared.cmp.Ordering.{Ordering}
use Rattle.std.specs.declared.cmp.Ordering.TheVariants.{Less, Equal, Greater}
use Rattle.std.specs.Ordering.{ordering_then}
use Rattle.ds_base.specs.Keys.{KeyParts}
use Rattle.ds_base.specs.KeyOrder.{bytes_cmp, key_cmp}
use Rattle.ds_entity.specs.Entities.{EntityParts, names_ascend}
use Rattle.ds_indexdef.specs.declared.IndexDef.{IndexDef}
use Rattle.ds_indexdef.specs.Definitions.{AreDefs}
use Rattle.ds_bytes.specs.Lawful.{IsKeyOfBytes}
use Rattle.ds_bytes.specs.Rows.{row_cmp, IsRow}
use Rattle.ds_rows.specs.IndexedValues.{kind_of}
use Rattle.ds_rows.specs.Indexes.{RowIndex, KindByKey, ByProperty, Composite, directions, index_key_descends, has_ancestor, indexes_of}
use Rattle.ds_rows.specs.Counts.{row_count}
use Rattle.ds_rows.specs.Indexable.{IsIndexable}
use Rattle.ds_rows.specs.Rows.{IndexRow, index_front, index_rows, index_row_bytes, rows_of}

-- ---- rows

-- the index of a definition stands at the definition's place
abbrev pub IsIndexOf : List IndexDef → RowIndex → Type 0
IsIndexOf defs (Composite n d) = (n < length defs) × (get_or defs n d ≡ d)
IsIndexOf defs _ = Unit {0}

-- there is an ancestor exactly where the index has them
abbrev pub SuitsAncestor : Bool → Option KeyParts → Type 0
SuitsAncestor true (Some a) = IsKeyOfBytes a
SuitsAncestor true None = ⊥
SuitsAncestor false (Some a) = ⊥
SuitsAncestor false None = Unit {0}

-- a row of an index, of whatever entity
pub record IsRowOf (defs : List IndexDef) (i : RowIndex) (r : IndexRow) : Type 0 where
  pub index : IsIndexOf defs i
  pub ancestor : SuitsAncestor (has_ancestor i) r.ancestor
  pub parts : IsRow (directions i) r.parts

-- ---- order

-- a row with an ancestor has the ancestor's place first
abbrev pub ancestor_cmp : Option KeyParts → Option KeyParts → Ordering
ancestor_cmp None None = Equal
ancestor_cmp None (Some b) = Less
ancestor_cmp (Some a) None = Greater
ancestor_cmp (Some a) (Some b) = key_cmp a b

-- by ancestor, then column by column, each in its direction, and then by key
abbrev pub index_row_cmp : RowIndex → IndexRow → IndexRow → Ordering
index_row_cmp i r s = ordering_then (ancestor_cmp r.ancestor s.ancestor) (row_cmp (directions i) (index_key_descends i) r.parts s.parts)

-- ---- fronts

-- the front of an index by kind or property holds the kind
abbrev pub HoldsKind : RowIndex → List ℕ → List ℕ → Type 0
HoldsKind KindByKey kind kind' = kind ≡ kind'
HoldsKind (ByProperty name descending) kind kind' = kind ≡ kind'
HoldsKind _ kind kind' = Unit {0}

pub record IsSameIndex (i j : RowIndex) (n k n' k' a b : List ℕ) : Type 0 where
  pub index : i ≡ j
  pub namespace : n ≡ n'
  pub kind : HoldsKind i k k'
  pub behind : a ≡ b

-- ---- lists

-- nothing stands twice
abbrev pub IsOnce : {A : Type 0} → List A → Type 0
IsOnce {A = A} [] = Unit {0}
IsOnce {A = A} (x ∷ xs) = All (λ y. x ≢ y) xs × IsOnce xs

-- ---- the laws

-- an entity's rows are rows of its indexes, with its key
abbrev pub RowsAreItsOwn : Type 0
RowsAreItsOwn =
    (defs : List IndexDef) (e : EntityParts) → IsIndexable e
    → All (λ i. All (λ r. IsRowOf defs i r × (r.parts.key ≡ e.key)) (index_rows e i)) (indexes_of defs e)

-- Rows of different indexes differ, and so do different rows of one index. A row has the key of its entity, so entities with
-- different keys share no row.
abbrev pub RowsAreApart : Type 0
RowsAreApart =
    (defs : List IndexDef) → AreDefs defs → (i j : RowIndex) (r s : IndexRow) → IsRowOf defs i r → IsRowOf defs j s
    → index_row_bytes i r ≡ index_row_bytes j s → (i ≡ j) × (r ≡ s)

-- Within one index, namespace and kind the order of bytes is that of the ancestor, the columns and the key.
abbrev pub RowsAreOrdered : Type 0
RowsAreOrdered =
    (defs : List IndexDef) (i : RowIndex) (r s : IndexRow) → IsRowOf defs i r → IsRowOf defs i s
    → r.parts.key.namespace ≡ s.parts.key.namespace → kind_of r.parts.key ≡ kind_of s.parts.key
    → bytes_cmp (index_row_bytes i r) (index_row_bytes i s) ≡ index_row_cmp i r s

-- A row that begins as those of an index in a namespace and a kind do is one of them; and what stands between two that
-- begin so begins so too.
pub record RowsStandTogether : Type 0 where
  pub only : (defs : List IndexDef) → AreDefs defs → (i j : RowIndex) (namespace kind more : List ℕ) (r : IndexRow)
      → IsIndexOf defs i → IsRowOf defs j r → index_row_bytes j r ≡ index_front i namespace kind ++ more
      → (j ≡ i) × (r.parts.key.namespace ≡ namespace) × HoldsKind j (kind_of r.parts.key) kind
  pub between : (front a b x : List ℕ) → (bytes_cmp (front ++ a) x ≡ Greater → ⊥) → (bytes_cmp x (front ++ b) ≡ Greater → ⊥)
      → (more : List ℕ) × (x ≡ front ++ more)

-- An entity, whose properties are in the order of their names, has one row more than are counted.
abbrev pub RowsAreCounted : Type 0
RowsAreCounted =
    (defs : List IndexDef) (e : EntityParts) → IsTrue (names_ascend e.properties) → length (rows_of defs e) ≡ row_count defs e + 1
