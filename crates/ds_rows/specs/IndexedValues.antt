-- What the indexes hold of an entity: its kind, and the values of its properties.
use Rattle.std.specs.Prelude.{ℕ, Bool, List, [], ◌∷◌, bytes_eq, cond, find, filter_map, flat_map, fold, length, map}
use Rattle.std.specs.Option.{option_map_or}
use Rattle.std.specs.BTreeSet.{insert_key}
use Rattle.ds_base.specs.declared.key.Elem.{Elem}
use Rattle.ds_entity.specs.declared.entity.Property.{Property}
use Rattle.ds_base.specs.declared.index_value.IndexValue.{IndexValue}
use Rattle.ds_base.specs.declared.index_value.IndexValue.TheVariants as class
use Rattle.ds_base.specs.Keys.{KeyParts}
use Rattle.ds_entity.specs.Entities.{EntityParts}
use Rattle.ds_base.specs.IndexOrder.{index_value_cmp}
use Rattle.ds_base.specs.KeyColumn.{is_key_name}
use Rattle.ds_base.specs.Values.{index_of}

-- ---- kinds

-- the kind of the last element of a path
abbrev pub last_kind : List Elem → List ℕ
last_kind [] = []
last_kind (e ∷ []) = e.kind
last_kind (e ∷ f ∷ es) = last_kind (f ∷ es)

-- the kind of an entity is that of its key's last element
abbrev pub kind_of : KeyParts → List ℕ
kind_of k = last_kind k.elems

-- is the key one of an entity of this kind?
abbrev pub kind_in : List ℕ → KeyParts → Bool
kind_in kind k = bytes_eq kind (kind_of k)

-- ---- values

-- the values of a property that an index holds, each once, ascending: none where the property isn't indexed, and none of its
-- long texts and blobs
abbrev pub property_values : Property → List IndexValue
property_values p = cond p.indexed (fold (insert_key index_value_cmp) [] (filter_map index_of p.values)) []

-- how many there are
abbrev pub value_count : Property → ℕ
value_count p = length (property_values p)

-- the indexed values of the property of this name, each once, ascending; none where the entity hasn't this property
abbrev pub indexed_values : EntityParts → List ℕ → List IndexValue
indexed_values e name = option_map_or property_values (find (λ p. bytes_eq p.name name) e.properties) []

-- ---- columns

-- what an entity has in the column of this name: its key alone in the column of keys, in each other the indexed values of the
-- property
abbrev pub column_values : EntityParts → List ℕ → List IndexValue
column_values e name = cond (is_key_name name) (class.Key e.key ∷ []) (indexed_values e name)

-- each way to take one value of each list, the last varying fastest
abbrev pub each_way : List (List IndexValue) → List (List IndexValue)
each_way [] = [] ∷ []
each_way (values ∷ more) = flat_map (λ v. map (λ vs. v ∷ vs) (each_way more)) values
