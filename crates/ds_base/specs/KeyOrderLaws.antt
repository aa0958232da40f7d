-- The laws of the order of keys: it is total, and answers Equal for equal keys alone.
use Rattle.std.specs.Prelude.{◌≡◌, ◌↔◌, ℕ, List, [], refl}
use Rattle.std.proofs.Common.{ap, subst}
use Rattle.std.specs.Bool.{Decides}
use Rattle.std.specs.Cmp.{IsTotalOrder, on_total, then_total, nat_cmp_total}
use Rattle.std.specs.Cmp.Lexicographic.{slice_cmp, lists_total, nat_list_cmp_total}
use Rattle.std.specs.declared.cmp.Ordering.{Ordering}
use Rattle.std.specs.declared.cmp.Ordering.TheVariants.{Equal}
use Rattle.std.specs.Ordering.{nat_cmp, on, then_cmp, eq_by_cmp}
use Rattle.std.specs.FinMap.{IsAntisymmetric, nat_cmp-IsAntisymmetric, slice_cmp-IsAntisymmetric}
use Rattle.ds_base.specs.declared.key.Ident.{Ident}
use Rattle.ds_base.specs.declared.key.Ident.TheVariants.{Id, Name}
use Rattle.ds_base.specs.declared.key.Elem.{Elem}
use Rattle.ds_base.specs.Keys.{KeyParts}
use Rattle.ds_base.specs.KeyOrder.{bytes_cmp, ident_cmp, elem_cmp, key_cmp, same_key}
use Rattle.ds_base.specs.OrderLaws.{then-Equal, both_Equal, Equal-same, eq_by_cmp-decides}

-- an order over three columns that an identifier is read as: whether it is a name, its id, its name
rank_of : Ident → ℕ
rank_of (Id n) = 0
rank_of (Name x) = 1

id_of : Ident → ℕ
id_of (Id n) = n
id_of (Name x) = 0

name_of : Ident → List ℕ
name_of (Id n) = []
name_of (Name x) = x

abbrev columns_cmp : Ident → Ident → Ordering
columns_cmp = then_cmp (on rank_of nat_cmp) (then_cmp (on id_of nat_cmp) (on name_of bytes_cmp))

columns_cmp-ident_cmp : (x y : Ident) → columns_cmp x y ≡ ident_cmp x y
unfolding rank_of id_of name_of
columns_cmp-ident_cmp (Id m) (Id n) = then-Equal (nat_cmp m n)
columns_cmp-ident_cmp (Id m) (Name y) = refl
columns_cmp-ident_cmp (Name x) (Id n) = refl
columns_cmp-ident_cmp (Name x) (Name y) = refl

pub ident_cmp-total : IsTotalOrder ident_cmp
ident_cmp-total =
    subst IsTotalOrder (λ i x y. columns_cmp-ident_cmp x y i)
    (then_total (on_total rank_of nat_cmp_total) (then_total (on_total id_of nat_cmp_total) (on_total name_of nat_list_cmp_total)))

pub elem_cmp-total : IsTotalOrder elem_cmp
elem_cmp-total = then_total (on_total (λ (e : Elem). e.kind) nat_list_cmp_total) (on_total (λ (e : Elem). e.ident) ident_cmp-total)

pub key_cmp-total : IsTotalOrder key_cmp
key_cmp-total =
    then_total (on_total (λ (k : KeyParts). k.namespace) nat_list_cmp_total)
    (on_total (λ (k : KeyParts). k.elems) (lists_total elem_cmp-total))

pub bytes_cmp-same : IsAntisymmetric bytes_cmp
bytes_cmp-same = slice_cmp-IsAntisymmetric nat_cmp-IsAntisymmetric

pub ident_cmp-same : IsAntisymmetric ident_cmp
ident_cmp-same (Id m) (Id n) e = ap Id (nat_cmp-IsAntisymmetric m n e)
ident_cmp-same (Id m) (Name y) e = cc
ident_cmp-same (Name x) (Id n) e = cc
ident_cmp-same (Name x) (Name y) e = ap Name (bytes_cmp-same x y e)

pub elem_cmp-same : IsAntisymmetric elem_cmp
elem_cmp-same x y e =
    let both = both_Equal (bytes_cmp x.kind y.kind) (ident_cmp x.ident y.ident) e in
    λ i. record { kind = bytes_cmp-same x.kind y.kind both.0 i; ident = ident_cmp-same x.ident y.ident both.1 i }

pub key_cmp-same : IsAntisymmetric key_cmp
key_cmp-same x y e =
    let both = both_Equal (bytes_cmp x.namespace y.namespace) (slice_cmp elem_cmp x.elems y.elems) e in
    λ i. record {
      namespace = bytes_cmp-same x.namespace y.namespace both.0 i;
      elems = slice_cmp-IsAntisymmetric elem_cmp-same x.elems y.elems both.1 i;
    }

pub ident_cmp-Equal : (x y : Ident) → (ident_cmp x y ≡ Equal) ↔ (x ≡ y)
ident_cmp-Equal = Equal-same ident_cmp-total ident_cmp-same

pub elem_cmp-Equal : (x y : Elem) → (elem_cmp x y ≡ Equal) ↔ (x ≡ y)
elem_cmp-Equal = Equal-same elem_cmp-total elem_cmp-same

pub key_cmp-Equal : (x y : KeyParts) → (key_cmp x y ≡ Equal) ↔ (x ≡ y)
key_cmp-Equal = Equal-same key_cmp-total key_cmp-same

pub same_ident-decides : (x y : Ident) → Decides (eq_by_cmp ident_cmp x y) (x ≡ y)
same_ident-decides = eq_by_cmp-decides ident_cmp-total ident_cmp-same

pub same_elem-decides : (x y : Elem) → Decides (eq_by_cmp elem_cmp x y) (x ≡ y)
same_elem-decides = eq_by_cmp-decides elem_cmp-total elem_cmp-same

pub same_key-decides : (x y : KeyParts) → Decides (same_key x y) (x ≡ y)
same_key-decides = eq_by_cmp-decides key_cmp-total key_cmp-same
