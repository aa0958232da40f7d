-- What is claimed of the bytes of values, keys and rows.
use Rattle.std.specs.Prelude.{◌≡◌, ◌↔◌, ℕ, ◌<◌, Bool, List, ◌++◌, length, IsTrue}
use Rattle.ds_base.specs.declared.index_value.IndexValue.{IndexValue}
use Rattle.ds_base.specs.Keys.{KeyParts}
use Rattle.ds_base.specs.KeyOrder.{key_cmp, is_ancestor}
use Rattle.ds_base.specs.IndexOrder.{index_value_cmp}
use Rattle.ds_bytes.specs.Encoding.{encoding, key_encoding, key_bytes, key_front}
use Rattle.ds_bytes.specs.Lawful.{IsValueOfBytes, IsKeyOfBytes}
use Rattle.ds_bytes.specs.Ordered.{IsOrderedBy, directed_cmp}
use Rattle.ds_bytes.specs.Rows.{RowParts, row_bytes, row_cmp, IsRow}

-- the bytes compare as what is written does, and descending ones the other way round
pub record EncodingsAreOrdered : Type 0 where
  pub values : (descending : Bool) → IsOrderedBy (directed_cmp descending index_value_cmp) IsValueOfBytes (encoding descending)
  pub keys : (descending : Bool) → IsOrderedBy (directed_cmp descending key_cmp) IsKeyOfBytes (key_encoding descending)
  -- rows column by column, each in its direction, and then by key
  pub rows : (directions : List Bool) (key_descends : Bool)
      → IsOrderedBy (row_cmp directions key_descends) (IsRow directions) (row_bytes directions key_descends)

-- Where bytes begin with two things written in one direction, the things are the same, and so is what follows. So different
-- things have different bytes, and none begins another.
pub record EncodingsAreReadOnce : Type 0 where
  pub values : (descending : Bool) (v w : IndexValue) (a b : List ℕ) → IsValueOfBytes v → IsValueOfBytes w
      → encoding descending v ++ a ≡ encoding descending w ++ b → (v ≡ w) × (a ≡ b)
  pub keys : (descending : Bool) (k l : KeyParts) (a b : List ℕ) → IsKeyOfBytes k → IsKeyOfBytes l
      → key_encoding descending k ++ a ≡ key_encoding descending l ++ b → (k ≡ l) × (a ≡ b)
  pub rows : (directions : List Bool) (key_descends : Bool) (x y : RowParts) (a b : List ℕ) → IsRow directions x
      → IsRow directions y
      → row_bytes directions key_descends x ++ a ≡ row_bytes directions key_descends y ++ b → (x ≡ y) × (a ≡ b)

-- a key lies under another, or is it, exactly where its bytes begin with the other's front
abbrev pub KeysUnderOneBeginAlike : Type 0
KeysUnderOneBeginAlike = (k d : KeyParts) → IsKeyOfBytes k → IsKeyOfBytes d → 0 < length k.elems
    → IsTrue (is_ancestor k d) ↔ ((more : List ℕ) × (key_bytes d ≡ key_front k ++ more))
