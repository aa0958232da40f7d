-- How keys compare, and how they lie under one another.
use Rattle.std.specs.Prelude.{ℕ, List, Bool, ◌&&◌, bytes_eq}
use Rattle.std.specs.List.{starts_with}
use Rattle.std.specs.Cmp.Lexicographic.{slice_cmp}
use Rattle.std.specs.declared.cmp.Ordering.{Ordering}
use Rattle.std.specs.declared.cmp.Ordering.TheVariants.{Less, Greater}
use Rattle.std.specs.Ordering.{ordering_then, nat_cmp, eq_by_cmp}
use Rattle.ds_base.specs.declared.key.Ident.{Ident}
use Rattle.ds_base.specs.declared.key.Ident.TheVariants.{Id, Name}
use Rattle.ds_base.specs.declared.key.Elem.{Elem}
use Rattle.ds_base.specs.Keys.{KeyParts}

-- byte sequences compare byte by byte, and one that another begins with comes first
abbrev pub bytes_cmp : List ℕ → List ℕ → Ordering
bytes_cmp = slice_cmp nat_cmp

-- ids come before names; ids compare numerically, names by bytes
abbrev pub ident_cmp : Ident → Ident → Ordering
ident_cmp (Id m) (Id n) = nat_cmp m n
ident_cmp (Id m) (Name y) = Less
ident_cmp (Name x) (Id n) = Greater
ident_cmp (Name x) (Name y) = bytes_cmp x y

-- the kind by bytes, and then the identifier
abbrev pub elem_cmp : Elem → Elem → Ordering
elem_cmp x y = ordering_then (bytes_cmp x.kind y.kind) (ident_cmp x.ident y.ident)

-- the namespace by bytes, and then element by element; a path comes before its extensions
abbrev pub key_cmp : KeyParts → KeyParts → Ordering
key_cmp x y = ordering_then (bytes_cmp x.namespace y.namespace) (slice_cmp elem_cmp x.elems y.elems)

-- two keys are the same where they compare as equal
abbrev pub same_key : KeyParts → KeyParts → Bool
same_key = eq_by_cmp key_cmp

-- one namespace, and the path of the one begins the path of the other; each key is its own ancestor
abbrev pub is_ancestor : KeyParts → KeyParts → Bool
is_ancestor k of = bytes_eq k.namespace of.namespace && starts_with (eq_by_cmp elem_cmp) of.elems k.elems
