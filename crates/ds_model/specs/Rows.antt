-- The rows of a branch over a list of entities: what an index that suits the branch would hold. How they compare, and where they stand,
-- is told by `ds_pages`.
use Rattle.std.specs.Prelude.{ℕ, Bool, true, false, ◌&&◌, List, [], ◌∷◌, bytes_eq, filter, map, flat_map, Option, Some, None}
use Rattle.std.specs.List.{list_all, list_any}
use Rattle.std.specs.Ordering.{is_eq, match_ordering}
use Rattle.ds_base.specs.declared.column.Column.{Column}
use Rattle.ds_base.specs.declared.index_value.IndexValue.{IndexValue}
use Rattle.ds_base.specs.declared.index_value.IndexValue.TheVariants.{Key}
use Rattle.ds_base.specs.Keys.{KeyParts}
use Rattle.ds_base.specs.KeyOrder.{is_ancestor}
use Rattle.ds_base.specs.IndexOrder.{index_value_cmp}
use Rattle.ds_entity.specs.Entities.{EntityParts}
use Rattle.ds_bytes.specs.Rows.{RowParts}
use Rattle.ds_query.specs.declared.branch.Pair.{Pair}
use Rattle.ds_query.specs.declared.branch.Bound.{Bound}
use Rattle.ds_query.specs.declared.branch.Range.{Range}
use Rattle.ds_query.specs.declared.branch.Branch.{Branch}
pub use Rattle.ds_pages.specs.Columns.{value_columns}
pub use Rattle.ds_pages.specs.Places.{compare_rows, place_of}
use Rattle.ds_rows.specs.IndexedValues.{kind_in, indexed_values, each_way}

-- ---- which entities count

-- its kind is the asked one; any is where none is asked
abbrev pub has_kind : Option (List ℕ) → KeyParts → Bool
has_kind None k = true
has_kind (Some kind) k = kind_in kind k

-- it lies under the ancestor, or is the ancestor itself; anything does where there is none
abbrev pub is_under : Option KeyParts → KeyParts → Bool
is_under None k = true
is_under (Some ancestor) k = is_ancestor ancestor k

-- an equality is met where one of the entity's indexed values of the property equals its value
abbrev pub has_value : EntityParts → Pair → Bool
has_value e p = list_any (λ v. is_eq (index_value_cmp v p.value)) (indexed_values e p.property)

-- an entity counts that has the branch's namespace and kind, lies under its ancestor, and meets each equality, each perhaps by
-- a different value of one property
abbrev pub is_found : Branch → EntityParts → Bool
is_found q e =
    bytes_eq e.key.namespace q.namespace && has_kind q.kind e.key && is_under q.ancestor e.key && list_all (has_value e) q.equal

-- ---- the rows of one entity

abbrev pub is_above : Option Bound → IndexValue → Bool
is_above None v = true
is_above (Some b) v = match_ordering (index_value_cmp b.value v) true b.inclusive false

abbrev pub is_below : Option Bound → IndexValue → Bool
is_below None v = true
is_below (Some b) v = match_ordering (index_value_cmp v b.value) true b.inclusive false

-- one value meets the whole range
abbrev pub is_within : Range → IndexValue → Bool
is_within r v = is_above r.lower v && is_below r.upper v

-- the value in the first column, which is the key where no other column stands before it
abbrev pub first_value : RowParts → IndexValue
first_value row = first_of row.values row.key where
  first_of : List IndexValue → KeyParts → IndexValue
  first_of [] k = Key k
  first_of (v ∷ vs) k = v

-- one row for each way to take one indexed value per column; an entity without a value for a column has none
abbrev pub entity_rows : List Column → EntityParts → List RowParts
entity_rows columns e =
    map (λ vs. record { values = vs; key = e.key }) (each_way (map (λ c. indexed_values e c.name) (value_columns columns)))

-- ---- the rows of a branch

-- the rows of the entities that count, the first column's value within the range. Of one entity each row stands once, and so do the
-- rows of entities with distinct keys; of several versions of one entity each has its own.
abbrev pub rows : Branch → List EntityParts → List RowParts
rows q entities =
    filter (λ row. is_within q.range (first_value row)) (flat_map (entity_rows q.columns) (filter (is_found q) entities))
