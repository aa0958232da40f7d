-- What stands behind a value or a key in a row begins with a byte below 255.
use Rattle.std.proofs.Common.{ℕ, ◌<◌, List, [], ◌∷◌, ◌++◌, Bool, true, false, arith}
use Rattle.ds_base.specs.declared.key.Elem.{Elem}
use Rattle.ds_base.specs.declared.index_value.IndexValue.{IndexValue}
use Rattle.ds_base.specs.declared.index_value.IndexValue.TheVariants as class
use Rattle.ds_base.specs.Keys.{KeyParts}
use Rattle.ds_bytes.specs.Encoding.{path_bytes, key_encoding, encoding}
use Rattle.ds_bytes.specs.Rows.{columns_bytes}

-- the first byte, if there is one, is below 255
abbrev pub IsLow : List ℕ → Type 0
IsLow [] = Unit {0}
IsLow (b ∷ bs) = b < 255

pub path_low : (es : List Elem) → IsLow (path_bytes es)
path_low [] = omega arith
path_low (e ∷ es) = omega arith

key_low : (d : Bool) (namespace : List ℕ) (es : List Elem) → IsLow (key_encoding d (record { namespace = namespace; elems = es }))
key_low false [] [] = omega arith
key_low false [] (e ∷ es) = omega arith
key_low false (b ∷ bs) es = omega arith
key_low true [] [] = omega arith
key_low true [] (e ∷ es) = omega arith
key_low true (b ∷ bs) es = omega arith

-- values and a key, whatever they are
pub row_low : (ds : List Bool) (vs : List IndexValue) (kd : Bool) (k : KeyParts) → IsLow (columns_bytes ds vs ++ key_encoding kd k)
row_low [] vs kd k = key_low kd k.namespace k.elems
row_low (d ∷ ds) [] kd k = key_low kd k.namespace k.elems
row_low (d ∷ ds) (v ∷ vs) kd k = by d v where
  by : (e : Bool) (w : IndexValue) → IsLow ((encoding e w ++ columns_bytes ds vs) ++ key_encoding kd k)
  by false class.Null = omega arith
  by false (class.Num n) = omega arith
  by false (class.Bool false) = omega arith
  by false (class.Bool true) = omega arith
  by false (class.Bytes s) = omega arith
  by false (class.Key l) = omega arith
  by true class.Null = omega arith
  by true (class.Num n) = omega arith
  by true (class.Bool false) = omega arith
  by true (class.Bool true) = omega arith
  by true (class.Bytes s) = omega arith
  by true (class.Key l) = omega arith
