-- The rows of a branch in the merged columns of a query.
use Rattle.std.specs.Prelude.{List, map, Option, Some, None, unwrap_or}
use Rattle.ds_base.specs.declared.column.Column.{Column}
use Rattle.ds_base.specs.declared.index_value.IndexValue.{IndexValue}
use Rattle.ds_base.specs.declared.index_value.IndexValue.TheVariants.{Null}
use Rattle.ds_bytes.specs.Rows.{RowParts}
use Rattle.ds_query.specs.declared.branch.Branch.{Branch}
pub use Rattle.ds_query.specs.RowValues.{asked_value}
use Rattle.ds_query.specs.RowValues.{value_columns, value_named}

-- the value of a column: a row's own, or else the one that is asked
abbrev pub else_asked : Option IndexValue → Option IndexValue → IndexValue
else_asked (Some v) asked = v
else_asked None asked = unwrap_or asked Null

-- the values of a branch's row in the merged columns
abbrev pub extended_values : List Column → Branch → List IndexValue → List IndexValue
extended_values merged q values =
    map (λ c. else_asked (value_named c.name (value_columns q.columns) values) (asked_value q.equal c.name)) (value_columns merged)

-- a branch's row in the merged columns: where a column is none of the branch's it has the value that the branch asks
abbrev pub extended : List Column → Branch → RowParts → RowParts
extended merged q row = record { values = extended_values merged q row.values; key = row.key }
