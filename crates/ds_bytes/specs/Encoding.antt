-- Values and keys as bytes that compare as the values and the keys do.
use Rattle.std.specs.Prelude.{ℕ, zero, suc, ◌+◌, ◌-◌, ◌/◌, ◌%◌, ◌^◌, ℤ, pos, negsuc, Bool, true, false, List, [], ◌∷◌, ◌++◌, take, flat_map}
use Rattle.ds_base.specs.declared.key.Ident.{Ident}
use Rattle.ds_base.specs.declared.key.Ident.TheVariants.{Id, Name}
use Rattle.ds_base.specs.declared.key.Elem.{Elem}
use Rattle.ds_base.specs.declared.index_value.IndexValue.{IndexValue}
use Rattle.ds_base.specs.declared.index_value.IndexValue.TheVariants as class
use Rattle.ds_base.specs.Keys.{KeyParts}
use Rattle.ds_lanes.specs.Kernels.{complement}

-- ---- texts and numbers

-- a zero byte is followed by 255, so that the end, 0 and 1, stands nowhere else
abbrev pub escaped_byte : ℕ → List ℕ
escaped_byte zero = 0x00 ∷ 0xff ∷ []
escaped_byte (suc b) = suc b ∷ []

-- the bytes, and then the end
abbrev pub escaped : List ℕ → List ℕ
escaped s = flat_map escaped_byte s ++ 0x00 ∷ 0x01 ∷ []

-- a number below 2^64 as 8 bytes, highest first
abbrev pub eight_bytes : ℕ → List ℕ
eight_bytes n =
    n / 2 ^ 56 % 256 ∷ n / 2 ^ 48 % 256 ∷ n / 2 ^ 40 % 256 ∷ n / 2 ^ 32 % 256 ∷ n / 2 ^ 24 % 256 ∷ n / 2 ^ 16 % 256 ∷ n / 2 ^ 8 % 256 ∷ n
    % 256 ∷ []

-- a signed number of 64 bits, raised by 2^63, so that none is negative; `negsuc n` is -(n + 1)
abbrev pub raised : ℤ → ℕ
raised (pos n) = 2 ^ 63 + n
raised (negsuc n) = 2 ^ 63 - suc n

-- ---- keys

-- ids before names
abbrev pub ident_bytes : Ident → List ℕ
ident_bytes (Id n) = 0x10 ∷ eight_bytes n
ident_bytes (Name s) = 0x20 ∷ escaped s

-- the kind, and then the identifier
abbrev pub elem_rest : Elem → List ℕ
elem_rest e = escaped e.kind ++ ident_bytes e.ident

abbrev pub elem_bytes : Elem → List ℕ
elem_bytes e = 0x02 ∷ elem_rest e

-- the elements, and an end that is below every further element
abbrev pub path_bytes : List Elem → List ℕ
path_bytes es = flat_map elem_bytes es ++ 0x01 ∷ []

-- a namespace other than the default stands before the path; since 3 is above 2, its keys come after those of the default
abbrev pub namespace_bytes : List ℕ → List ℕ
namespace_bytes [] = []
namespace_bytes (b ∷ bs) = 0x03 ∷ escaped (b ∷ bs)

-- the ascending encoding of a key
abbrev pub key_bytes : KeyParts → List ℕ
key_bytes k = namespace_bytes k.namespace ++ path_bytes k.elems

-- the same without its last byte: the keys under an ancestor are those whose encoding begins so
abbrev pub key_front : KeyParts → List ℕ
key_front k = namespace_bytes k.namespace ++ flat_map elem_bytes k.elems

-- the key of the first elements of a path: an ancestor, or the key itself where it has no more
abbrev pub ancestor_of : KeyParts → ℕ → KeyParts
ancestor_of k elements = record { namespace = k.namespace; elems = take elements k.elems }

-- ---- values

-- the ascending encoding of a value: its class, in the order of classes, and then what tells it from others of the class
abbrev pub value_bytes : IndexValue → List ℕ
value_bytes class.Null = 0x10 ∷ []
value_bytes (class.Num n) = 0x20 ∷ eight_bytes (raised n)
value_bytes (class.Bool false) = 0x30 ∷ 0x00 ∷ []
value_bytes (class.Bool true) = 0x30 ∷ 0x01 ∷ []
value_bytes (class.Bytes s) = 0x40 ∷ escaped s
value_bytes (class.Key k) = 0x50 ∷ key_bytes k

-- ---- directions

-- bytes that stand in descending order are ascending ones, each taken from 255
abbrev pub directed : Bool → List ℕ → List ℕ
directed false bytes = bytes
directed true bytes = complement bytes

-- the encoding of a value, ascending or descending
abbrev pub encoding : Bool → IndexValue → List ℕ
encoding descending v = directed descending (value_bytes v)

-- the encoding of a key that is a column of its own, ascending or descending
abbrev pub key_encoding : Bool → KeyParts → List ℕ
key_encoding descending k = directed descending (key_bytes k)
