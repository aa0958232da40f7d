-- Which bytes are a row of these columns.
use Rattle.std.specs.Prelude.{◌≡◌, ℕ, Bool, List, length, All}
use Rattle.ds_base.specs.declared.column.Column.{Column}
use Rattle.ds_bytes.specs.Lawful.{IsLawfulKey, IsLawfulValue}
use Rattle.ds_bytes.specs.Rows.{RowParts, row_bytes}
use Rattle.ds_base.specs.KeyColumn.{key_descends}
pub use Rattle.ds_query.specs.RowValues.{directions}

-- One row in columns of these directions, and nothing behind it: a value for each column, and then the key.
pub record IsRowIn (columns : List Bool) (descending_key : Bool) (bytes : List ℕ) : Type 0 where
  pub row : RowParts
  pub long : length row.values ≡ length columns
  pub values : All IsLawfulValue row.values
  pub key : IsLawfulKey row.key
  pub written : bytes ≡ row_bytes columns descending_key row

-- one row of these columns, and nothing behind it
abbrev pub IsRowOf : List Column → List ℕ → Type 0
IsRowOf columns bytes = IsRowIn (directions columns) (key_descends columns) bytes
