-- What hashing a key feeds a hasher. Equal keys feed the same, since the order answers Equal for equal keys alone.
use Rattle.std.specs.Prelude.{◌≡◌, ◌++◌, true}
use Rattle.std.specs.Hash as fed
use Rattle.std.specs.Hash.{HashWrites, same_Alike}
use Rattle.std.specs.Ordering.{eq_by_cmp}
use Rattle.ds_base.specs.declared.key.Ident.{Ident}
use Rattle.ds_base.specs.declared.key.Ident.TheVariants.{Id, Name}
use Rattle.ds_base.specs.declared.key.Elem.{Elem}
use Rattle.ds_base.specs.Keys.{KeyParts}
use Rattle.ds_base.specs.KeyOrder.{ident_cmp, elem_cmp, key_cmp}
use Rattle.ds_base.specs.KeyOrderLaws.{same_ident-decides, same_elem-decides, same_key-decides}

-- a byte that tells ids from names, and then the one or the other
abbrev pub ident_writes : Ident → HashWrites
ident_writes (Id n) = fed.u8 0 ++ fed.u64 n
ident_writes (Name x) = fed.u8 1 ++ fed.str x

-- the kind, and then the identifier
abbrev pub elem_writes : Elem → HashWrites
elem_writes e = fed.str e.kind ++ ident_writes e.ident

-- the namespace, and then how many elements there are and each of them
abbrev pub key_writes : KeyParts → HashWrites
key_writes k = fed.str k.namespace ++ fed.slice elem_writes k.elems

pub ident-alike : (x y : Ident) → eq_by_cmp ident_cmp x y ≡ true → ident_writes x ≡ ident_writes y
ident-alike = (same_Alike ident_writes same_ident-decides).fed

pub elem-alike : (x y : Elem) → eq_by_cmp elem_cmp x y ≡ true → elem_writes x ≡ elem_writes y
elem-alike = (same_Alike elem_writes same_elem-decides).fed

pub key-alike : (x y : KeyParts) → eq_by_cmp key_cmp x y ≡ true → key_writes x ≡ key_writes y
key-alike = (same_Alike key_writes same_key-decides).fed
