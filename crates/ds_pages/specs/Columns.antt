-- The columns of a row, and its values by the names of its columns.
use Rattle.std.specs.Prelude.{ℕ, List, map, Option, unwrap_or}
use Rattle.ds_base.specs.declared.column.Column.{Column}
use Rattle.ds_base.specs.declared.index_value.IndexValue.{IndexValue}
use Rattle.ds_base.specs.declared.index_value.IndexValue.TheVariants.{Null}
pub use Rattle.ds_base.specs.KeyColumn.{key_descends}
use Rattle.ds_bytes.specs.Rows.{RowParts}
pub use Rattle.ds_query.specs.RowValues.{directions, value_columns, value_named}

-- the value in a column other than `__key__`
abbrev pub value_in : List Column → RowParts → List ℕ → Option IndexValue
value_in columns row name = value_named name (value_columns columns) row.values

-- the values of a projection, in its order; each of its names is one of the columns
abbrev pub projected_values : List Column → List (List ℕ) → RowParts → List IndexValue
projected_values columns names row = map (λ name. unwrap_or (value_in columns row name) Null) names
