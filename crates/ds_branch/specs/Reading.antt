-- What stands at the front of the bytes of a row.
use Rattle.std.specs.Prelude.{◌≡◌, ℕ, Bool, List, ◌++◌}
use Rattle.ds_base.specs.declared.index_value.IndexValue.{IndexValue}
use Rattle.ds_base.specs.Keys.{KeyParts}
use Rattle.ds_base.specs.KeyColumn.{key_descends}
use Rattle.ds_base.specs.declared.column.Column.{Column}
use Rattle.ds_bytes.specs.Encoding.{encoding, key_encoding}
use Rattle.ds_bytes.specs.Lawful.{IsLawfulKey, IsLawfulValue}
use Rattle.ds_bytes.specs.Rows.{RowParts}

-- a value in this direction, and more
pub record ValueStands (descending : Bool) (bytes : List ℕ) : Type 0 where
  pub value : IndexValue
  pub more : List ℕ
  pub lawful : IsLawfulValue value
  pub written : bytes ≡ encoding descending value ++ more

-- a key in this direction, and nothing more
pub record KeyStands (descending : Bool) (bytes : List ℕ) : Type 0 where
  pub key : KeyParts
  pub lawful : IsLawfulKey key
  pub written : bytes ≡ key_encoding descending key

-- the values of a row, and the bytes of its key, which stand behind those of the values
pub record StandBehind (columns : List Column) (values : List IndexValue) (key : List ℕ) (row : RowParts) : Type 0 where
  pub read : row.values ≡ values
  pub stands : key ≡ key_encoding (key_descends columns) row.key
