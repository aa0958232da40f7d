-- Rows as bytes: the columns' values, each in the direction of its column, and then the key.
use Rattle.std.specs.Prelude.{◌≡◌, ℕ, Bool, List, [], ◌∷◌, ◌++◌, length, All}
use Rattle.std.specs.declared.cmp.Ordering.{Ordering}
use Rattle.std.specs.declared.cmp.Ordering.TheVariants.{Equal}
use Rattle.std.specs.Ordering.{ordering_then}
use Rattle.ds_base.specs.Keys.{KeyParts}
use Rattle.ds_base.specs.KeyOrder.{key_cmp}
use Rattle.ds_base.specs.IndexOrder.{index_value_cmp}
use Rattle.ds_base.specs.declared.index_value.IndexValue.{IndexValue}
use Rattle.ds_bytes.specs.Encoding.{encoding, key_encoding}
use Rattle.ds_bytes.specs.Lawful.{IsValueOfBytes, IsKeyOfBytes}
use Rattle.ds_bytes.specs.Ordered.{directed_cmp}

-- one value per column, and the key
pub record RowParts : Type 0 where
  pub values : List IndexValue
  pub key : KeyParts

-- the values, each in its column's direction: true for a descending column
abbrev pub columns_bytes : List Bool → List IndexValue → List ℕ
columns_bytes [] vs = []
columns_bytes (d ∷ ds) [] = []
columns_bytes (d ∷ ds) (v ∷ vs) = encoding d v ++ columns_bytes ds vs

-- column by column, each in its direction
abbrev pub columns_cmp : List Bool → List IndexValue → List IndexValue → Ordering
columns_cmp [] vs ws = Equal
columns_cmp (d ∷ ds) [] ws = Equal
columns_cmp (d ∷ ds) (v ∷ vs) [] = Equal
columns_cmp (d ∷ ds) (v ∷ vs) (w ∷ ws) = ordering_then (directed_cmp d index_value_cmp v w) (columns_cmp ds vs ws)

-- A row of columns with these directions. The key is a column too, the last one; where no column names it, it ascends.
abbrev pub row_bytes : List Bool → Bool → RowParts → List ℕ
row_bytes directions key_descends row = columns_bytes directions row.values ++ key_encoding key_descends row.key

-- column by column, and then by key
abbrev pub row_cmp : List Bool → Bool → RowParts → RowParts → Ordering
row_cmp directions key_descends x y = ordering_then (columns_cmp directions x.values y.values)
    (directed_cmp key_descends key_cmp x.key y.key)

-- a row has a value for each column
pub record IsRow (directions : List Bool) (row : RowParts) : Type 0 where
  pub long : length row.values ≡ length directions
  pub values : All IsValueOfBytes row.values
  pub key : IsKeyOfBytes row.key
