-- The size of an entity, and why one is refused.
use Rattle.std.specs.Prelude.{ℕ, ◌+◌, ◌^◌, min, Bool, true, false, ◌&&◌, ◌||◌, not, ◌==◌, nat_lt, List, [], ◌∷◌, length, sum_by}
use Rattle.std.specs.Prelude.{Option, Some, None, position, cond, ◌≡◌, ◌<◌, IsTrue}
use Rattle.std.specs.List.{list_any}
use Rattle.ds_base.specs.Limits.{greatest_entity_size, greatest_told}
use Rattle.ds_base.specs.Values.{is_faulty_value}
use Rattle.ds_base.specs.declared.key.Ident.{Ident}
use Rattle.ds_base.specs.declared.key.Ident.TheVariants.{Id, Name}
use Rattle.ds_base.specs.declared.key.Elem.{Elem}
use Rattle.ds_base.specs.declared.value.Value.{Value}
use Rattle.ds_base.specs.declared.value.Value.TheVariants as value
use Rattle.ds_entity.specs.declared.entity.Property.{Property}
use Rattle.ds_entity.specs.declared.entity.EntityRefused.{EntityRefused}
use Rattle.ds_entity.specs.declared.entity.EntityRefused.TheVariants as refused
use Rattle.ds_base.specs.Keys.{KeyParts, is_key, is_name, is_reserved, is_writable}
use Rattle.ds_base.specs.KeyOrder.{bytes_cmp}
use Rattle.std.specs.Ordering.{is_lt}

-- an entity is a key and its properties
pub record EntityParts : Type 0 where
  pub key : KeyParts
  pub properties : List Property

-- an id counts 8, a name its length
abbrev pub ident_size : Ident → ℕ
ident_size (Id n) = 8
ident_size (Name name) = length name

abbrev pub elem_size : Elem → ℕ
elem_size e = 16 + length e.kind + ident_size e.ident

-- a key counts its elements and the length of its namespace
abbrev pub key_size : KeyParts → ℕ
key_size k = length k.namespace + sum_by elem_size k.elems

-- strings, byte strings, texts and blobs count their length, keys their size, all other values nothing
abbrev pub content_size : Value → ℕ
content_size (value.Bytes s) = length s
content_size (value.Str s) = length s
content_size (value.Text s) = length s
content_size (value.Blob s) = length s
content_size (value.Key k) = key_size k
content_size _ = 0

abbrev pub value_size : Value → ℕ
value_size v = 16 + content_size v

abbrev pub property_size : Property → ℕ
property_size p = 16 + length p.name + sum_by value_size p.values

abbrev pub entity_size : KeyParts → List Property → ℕ
entity_size key properties = key_size key + sum_by property_size properties

-- a name that is empty, too long or reserved; no value; or a faulty value
abbrev pub is_faulty_property : Property → Bool
is_faulty_property p =
    not (is_name p.name) || is_reserved p.name || (length p.values == 0) || list_any (is_faulty_value p.indexed) p.values

-- the refusal of a key that is or isn't writable, the first faulty property if there is one, and a size
abbrev pub refusal_by : Bool → Option ℕ → ℕ → Option EntityRefused
refusal_by false faulty size = Some refused.BadKey
refusal_by true (Some i) size = Some (refused.BadValue i)
refusal_by true None size = cond (nat_lt greatest_entity_size size) (Some (refused.TooLarge (min size greatest_told))) None

-- the first that holds: the key isn't writable; a property is faulty; the size is above 1,048,576
abbrev pub entity_refusal : KeyParts → List Property → Option EntityRefused
entity_refusal key properties =
    refusal_by (is_writable key) (position is_faulty_property properties) (entity_size key properties)

-- names that strictly ascend, by bytes
abbrev pub names_ascend : List Property → Bool
names_ascend [] = true
names_ascend (p ∷ []) = true
names_ascend (p ∷ q ∷ ps) = is_lt (bytes_cmp p.name q.name) && names_ascend (q ∷ ps)

-- what each entity keeps
pub record IsEntity (key : KeyParts) (properties : List Property) : Type 0 where
  pub lawful_key : IsTrue (is_key key)
  pub not_refused : entity_refusal key properties ≡ None
  pub ascending : IsTrue (names_ascend properties)
  pub few : length properties < 2 ^ 32
