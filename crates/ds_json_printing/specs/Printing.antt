-- Keys, values and index values as JSON.
use Rattle.std.specs.Prelude.{ℕ, ℤ, List, [], ◌∷◌, Bool, Option, Some, None, cond, codes}
use Rattle.std.specs.Str.{is_utf8}
use Rattle.serde_json.specs.Data.{Data, unsigned, null, boolean, number, string, array, Items, no_items, item}
use Rattle.serde_json.specs.Find.{of_integer}
use Rattle.base64.specs.Engines.{standard}
use Rattle.base64.specs.GeneralPurpose.{encode_of}
use Rattle.ds_base.specs.declared.key.Ident.{Ident}
use Rattle.ds_base.specs.declared.key.Ident.TheVariants.{Id, Name}
use Rattle.ds_base.specs.declared.key.Elem.{Elem}
use Rattle.ds_base.specs.declared.value.Value.{Value}
use Rattle.ds_base.specs.declared.value.Value.TheVariants as value
use Rattle.ds_base.specs.declared.index_value.IndexValue.{IndexValue}
use Rattle.ds_base.specs.declared.index_value.IndexValue.TheVariants as index
use Rattle.ds_base.specs.Keys.{KeyParts}
use Rattle.ds_json_printing.specs.Objects.{named, object_of}

abbrev pub natural : ℕ → Data
natural n = number (unsigned n)

abbrev pub integer : ℤ → Data
integer z = number (of_integer z)

-- an object of one member
abbrev pub tagged : List ℕ → Data → Data
tagged name d = object_of (named name d ∷ [])

abbrev pub ident_data : Ident → Data
ident_data (Id n) = natural n
ident_data (Name s) = string s

abbrev pub elem_data : Elem → Data
elem_data e = array (item (string e.kind) (item (ident_data e.ident) no_items))

abbrev pub elem_items : List Elem → Items
elem_items [] = no_items
elem_items (e ∷ es) = item (elem_data e) (elem_items es)

-- a key shows its namespace exactly where that isn't the default
abbrev pub keyed_items : List ℕ → List Elem → Items
keyed_items [] es = elem_items es
keyed_items (b ∷ bs) es = item (string (b ∷ bs)) (elem_items es)

abbrev pub key_data : KeyParts → Data
key_data k = array (keyed_items k.namespace k.elems)

abbrev pub base64_data : List ℕ → Data
base64_data s = string (encode_of standard s)

abbrev pub value_data : Value → Data
value_data value.Null = null
value_data (value.Int n) = integer n
value_data (value.Date n) = tagged (codes "date") (integer n)
value_data (value.Rating n) = tagged (codes "rating") (natural n)
value_data (value.Bool b) = boolean b
value_data (value.Bytes s) = tagged (codes "bytes") (base64_data s)
value_data (value.Str s) = string s
value_data (value.Text s) = tagged (codes "text") (string s)
value_data (value.Blob s) = tagged (codes "blob") (base64_data s)
value_data (value.Key k) = tagged (codes "key") (key_data k)

abbrev pub value_items : List Value → Items
value_items [] = no_items
value_items (v ∷ vs) = item (value_data v) (value_items vs)

-- one value as itself, several as an array
abbrev pub values_data : List Value → Data
values_data (v ∷ []) = value_data v
values_data vs = array (value_items vs)

-- an index value shows a byte sequence as a text where it is UTF-8
abbrev pub index_value_data : IndexValue → Data
index_value_data index.Null = null
index_value_data (index.Num n) = integer n
index_value_data (index.Bool b) = boolean b
index_value_data (index.Bytes s) = cond (is_utf8 s) (string s) (tagged (codes "bytes") (base64_data s))
index_value_data (index.Key k) = tagged (codes "key") (key_data k)

-- null, where there is none
abbrev pub optional_key_data : Option KeyParts → Data
optional_key_data None = null
optional_key_data (Some k) = key_data k
