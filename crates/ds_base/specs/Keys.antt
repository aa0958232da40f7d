-- What a key is, which keys there are, and how keys lie under one another.
use Rattle.std.specs.Prelude.{ℕ, Bool, true, false, ◌&&◌, ◌||◌, not, ◌==◌, nat_le, nat_eq, List, [], ◌∷◌, length, take, codes}
use Rattle.std.specs.List.{list_all, list_any, starts_with, ends_with}
use Rattle.ds_base.specs.Limits.{most_elements, greatest_id, most_name_bytes, most_namespace_bytes}
use Rattle.ds_base.specs.declared.key.Ident.{Ident}
use Rattle.ds_base.specs.declared.key.Ident.TheVariants.{Id, Name}
use Rattle.ds_base.specs.declared.key.Elem.{Elem}

-- a key is a namespace and a path of elements, the root first
pub record KeyParts : Type 0 where
  pub namespace : List ℕ
  pub elems : List Elem

-- a name of at least one byte and at most 1,500
abbrev pub is_name : List ℕ → Bool
is_name name = nat_le 1 (length name) && nat_le (length name) most_name_bytes

-- an id from 1 to 2^63 - 1, or a name
abbrev pub is_ident : Ident → Bool
is_ident (Id n) = nat_le 1 n && nat_le n greatest_id
is_ident (Name name) = is_name name

abbrev pub is_elem : Elem → Bool
is_elem e = is_name e.kind && is_ident e.ident

-- 1 to 100 elements
abbrev pub is_path : List Elem → Bool
is_path path = nat_le 1 (length path) && nat_le (length path) most_elements && list_all is_elem path

-- the characters of a namespace: ASCII letters and digits, and ". _ -"
abbrev pub is_namespace_byte : ℕ → Bool
is_namespace_byte b =
    (nat_le 97 b && nat_le b 122) || (nat_le 65 b && nat_le b 90) || (nat_le 48 b && nat_le b 57) || (b == 46) || (b == 95) || (b == 45)

-- at most 100 such characters; the empty namespace is the default
abbrev pub is_namespace : List ℕ → Bool
is_namespace namespace = nat_le (length namespace) most_namespace_bytes && list_all is_namespace_byte namespace

abbrev pub is_key : KeyParts → Bool
is_key k = is_namespace k.namespace && is_path k.elems

-- a name of at least four bytes that begins and ends with two underscores
abbrev pub is_reserved : List ℕ → Bool
is_reserved name =
    nat_le 4 (length name) && starts_with nat_eq name (codes "__") && ends_with nat_eq name (codes "__")

abbrev pub is_reserved_ident : Ident → Bool
is_reserved_ident (Id n) = false
is_reserved_ident (Name name) = is_reserved name

abbrev pub is_reserved_elem : Elem → Bool
is_reserved_elem e = is_reserved e.kind || is_reserved_ident e.ident

-- no kind and no name of a written key is reserved
abbrev pub is_writable : KeyParts → Bool
is_writable k = not (list_any is_reserved_elem k.elems)

-- the first element alone, in the same namespace: it names the entity group
abbrev pub root_of : KeyParts → KeyParts
root_of k = record { namespace = k.namespace; elems = take 1 k.elems }

-- does the path end in an id?
abbrev pub ends_in_id : List Elem → Bool
ends_in_id [] = false
ends_in_id (e ∷ []) = is_id e.ident where
  is_id : Ident → Bool
  is_id (Id n) = true
  is_id (Name x) = false
ends_in_id (e ∷ f ∷ es) = ends_in_id (f ∷ es)

-- the path with its last identifier replaced by an id
abbrev pub with_last_id : List Elem → ℕ → List Elem
with_last_id [] id = []
with_last_id (e ∷ []) id = (record e { ident = Id id }) ∷ []
with_last_id (e ∷ f ∷ es) id = e ∷ with_last_id (f ∷ es) id

abbrev pub renumbered : KeyParts → ℕ → KeyParts
renumbered k id = record k { elems = with_last_id k.elems id }
