-- How many index rows an entity has, as the limit on them counts. The row in the index of all entities isn't counted.
use Rattle.std.specs.Prelude.{◌≡◌, ℕ, ◌+◌, ◌*◌, ◌<◌, ◌≤◌, min, List, [], ◌∷◌, length, map, sum_by, cond, Result, Ok, Err}
use Rattle.ds_base.specs.Limits.{most_index_rows, greatest_told}
use Rattle.ds_entity.specs.Entities.{EntityParts}
use Rattle.ds_indexdef.specs.declared.IndexDef.{IndexDef}
use Rattle.ds_rows.specs.declared.refused.RowsRefused.{RowsRefused}
use Rattle.ds_rows.specs.declared.refused.RowsRefused.TheVariants.{TooManyRows, NoMemory}
use Rattle.ds_rows.specs.IndexedValues.{kind_in, value_count, indexed_values}
use Rattle.ds_base.specs.KeyColumn.{is_key_name}

-- the product of the numbers, and 1 where there are none
abbrev pub product : List ℕ → ℕ
product [] = 1
product (n ∷ ns) = n * product ns

-- how many values an entity has in the column of this name; `__key__` counts as one
abbrev pub column_count : EntityParts → List ℕ → ℕ
column_count e name = cond (is_key_name name) 1 (length (indexed_values e name))

-- a composite index has one row for each combination of its columns' values, and that once for each element of the entity's
-- path where it has the ancestor flag
abbrev pub composite_count : EntityParts → IndexDef → ℕ
composite_count e d = product (map (λ c. column_count e c.name) d.columns) * cond d.ancestor (length e.key.elems) 1

-- one row by kind, two for each property and indexed value of it, and those of the composite indexes of the kind
abbrev pub row_count : List IndexDef → EntityParts → ℕ
row_count defs e =
    1 + sum_by (λ p. 2 * value_count p) e.properties
    + sum_by (λ d. cond (kind_in d.kind e.key) (composite_count e d) 0) defs

-- the number of rows; above 20,000 the refusal, which tells the number, or 2^63 - 1 where it is larger
abbrev pub IsCounted : ℕ → Result ℕ RowsRefused → Type 0
IsCounted n (Ok count) = (n ≤ most_index_rows) × (count ≡ n)
IsCounted n (Err (TooManyRows count)) = (most_index_rows < n) × (count ≡ min n greatest_told)
IsCounted n (Err NoMemory) = Unit {0}
