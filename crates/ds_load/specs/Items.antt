-- The items of a load, and its query.
use Rattle.std.specs.Prelude.{ℕ, ◌+◌, ◌%◌, pos, List, [], ◌∷◌, true, codes}
use Rattle.ds_entity.specs.declared.entity.Property.{Property}
use Rattle.ds_base.specs.declared.key.Ident.TheVariants.{Id}
use Rattle.ds_base.specs.declared.value.Value.TheVariants.{Int}
use Rattle.ds_base.specs.Keys.{KeyParts}
use Rattle.ds_entity.specs.Entities.{EntityParts}

-- an indexed property with one whole number
abbrev pub whole_number : List ℕ → ℕ → Property
whole_number name n = record { name = name; indexed = true; values = Int (pos n) ∷ [] }

abbrev pub key_of_item : ℕ → KeyParts
key_of_item i = record { namespace = []; elems = (record { kind = codes "Item"; ident = Id (i + 1) }) ∷ [] }

-- item i has the id i + 1; `a` and `b` are what is left of i by 10 and by 7, and `c` is i
abbrev pub item_of : ℕ → EntityParts
item_of i = record {
  key = key_of_item i;
  properties = whole_number (codes "a") (i % 10) ∷ whole_number (codes "b") (i % 7) ∷ whole_number (codes "c") i ∷ [];
}

-- four clients put the items in turn
abbrev pub client_of_item : ℕ → ℕ
client_of_item i = i % 4
