-- The ways to take one value of each list, by their number: the last list varies fastest.
use Rattle.std.specs.Prelude.{ℕ, ◌/◌, ◌%◌, Bool, List, [], ◌∷◌, ◌++◌, get_or, length, map}
use Rattle.ds_base.specs.declared.index_value.IndexValue.{IndexValue}
use Rattle.ds_base.specs.declared.index_value.IndexValue.TheVariants.{Null}
use Rattle.ds_base.specs.Keys.{KeyParts}
use Rattle.ds_bytes.specs.Encoding.{key_bytes}
use Rattle.ds_bytes.specs.Rows.{columns_bytes}
use Rattle.ds_rows.specs.IndexedValues.{each_way}
use Rattle.ds_rows.specs.declared.ways.ColumnValues.{ColumnValues}
use Rattle.ds_rows.specs.Counts.{product}

-- how many ways there are
abbrev pub ways_count : List (List IndexValue) → ℕ
ways_count lists = product (map length lists)

-- the way of this number, which is below how many there are
abbrev pub way_at : List (List IndexValue) → ℕ → List IndexValue
way_at [] n = []
way_at (values ∷ more) n = get_or values (n / ways_count more) Null ∷ way_at more (n % ways_count more)

-- the values in each column, and the columns' directions
abbrev pub lists_of : List ColumnValues → List (List IndexValue)
lists_of = map (λ (c : ColumnValues). c.values.now)

abbrev pub directions_of : List ColumnValues → List Bool
directions_of = map (λ (c : ColumnValues). c.descending)

-- a row: what stands in front, the values of a way in their columns' directions, and what stands behind
abbrev pub row_of_way : List ℕ → List ColumnValues → List ℕ → List IndexValue → List ℕ
row_of_way front columns behind values = front ++ (columns_bytes (directions_of columns) values ++ behind)

-- the rows of all ways, behind an ancestor
abbrev pub ancestor_rows : List ℕ → List ColumnValues → List ℕ → KeyParts → List (List ℕ)
ancestor_rows front columns behind a = map (row_of_way (front ++ key_bytes a) columns behind) (each_way (lists_of columns))
