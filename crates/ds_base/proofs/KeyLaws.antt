-- What a root and a new last id keep of a key.
use Rattle.std.proofs.Common.{◌≡◌, ℕ, zero, suc, ◌+◌, ◌<◌, ◌≤◌, List, [], ◌∷◌, length, refl, ap, sym, ◌∙◌, true, ◌&&◌, ◌||◌, arith}
use Rattle.std.proofs.lemmas.Grind.{common_steps}
use Rattle.std.proofs.lemmas.List.Sums.{sum_by-cons}
use Rattle.std.proofs.lemmas.Bool.{and_parts, and_from}
use Rattle.std.specs.Prelude.{sum_by, nat_le, not, slice_set, slice_index_or, position}
use Rattle.std.specs.List.{list_all, list_any}
use Rattle.ds_base.specs.declared.key.Ident.{Ident}
use Rattle.ds_base.specs.declared.key.Ident.TheVariants.{Id, Name}
use Rattle.ds_base.specs.declared.key.Elem.{Elem}
use Rattle.ds_base.specs.Limits.{greatest_id, most_elements}
use Rattle.ds_base.specs.Keys.{KeyParts, is_key, is_path, is_namespace, is_elem, is_ident, is_name, is_reserved_elem, is_writable}
use Rattle.ds_base.specs.Keys.{ends_in_id, with_last_id, renumbered}

pub length-with_last_id : (es : List Elem) (id : ℕ) → length (with_last_id es id) ≡ length es
length-with_last_id [] id = refl
length-with_last_id (e ∷ []) id = refl
length-with_last_id (e ∷ f ∷ es) id = omega (arith, length-with_last_id (f ∷ es) id)

is_ident-Id : (id : ℕ) → 1 ≤ id → id ≤ greatest_id → is_ident (Id id) ≡ true
is_ident-Id id low high = grind (arith, common_steps)

pub all_elems-with_last_id : (es : List Elem) (id : ℕ) → 1 ≤ id → id ≤ greatest_id → list_all is_elem es ≡ true → list_all is_elem (with_last_id es id) ≡ true
all_elems-with_last_id [] id low high all = refl
all_elems-with_last_id (e ∷ []) id low high all =
    and_from (is_elem (record e { ident = Id id })) true
    (and_from (is_name e.kind) (is_ident (Id id)) ((and_parts (is_name e.kind) (is_ident e.ident) ((and_parts (is_elem e) true all).0)).0) (is_ident-Id id low high))
    refl
all_elems-with_last_id (e ∷ f ∷ es) id low high all =
    let parts = and_parts (is_elem e) (list_all is_elem (f ∷ es)) all in
    and_from (is_elem e) (list_all is_elem (with_last_id (f ∷ es) id)) parts.0 (all_elems-with_last_id (f ∷ es) id low high parts.1)

pub reserved-with_last_id : (es : List Elem) (id : ℕ) → ends_in_id es ≡ true → list_any is_reserved_elem (with_last_id es id) ≡ list_any is_reserved_elem es
reserved-with_last_id [] id ends = refl
reserved-with_last_id (e ∷ []) id ends = last e.ident refl ends where
  last : (i : Ident) → e.ident ≡ i → ends_in_id (e ∷ []) ≡ true → list_any is_reserved_elem (with_last_id (e ∷ []) id) ≡ list_any is_reserved_elem (e ∷ [])
  last (Id n) is ends = rw is
  last (Name x) is ends = cc
reserved-with_last_id (e ∷ f ∷ es) id ends = ap (λ b. is_reserved_elem e || b) (reserved-with_last_id (f ∷ es) id ends)

-- the last element, replaced by its place
pub with_last_id-set : (es : List Elem) (id last : ℕ) (d : Elem) → last + 1 ≡ length es → slice_set es last (record { kind = (slice_index_or es last d).kind; ident = Id id }) ≡ with_last_id es id
with_last_id-set [] id last d e = absurd (omega arith)
with_last_id-set (e ∷ []) id zero d is = refl
with_last_id-set (e ∷ []) id (suc last) d is = absurd (omega arith)
with_last_id-set (e ∷ f ∷ es) id zero d is = absurd (omega arith)
with_last_id-set (e ∷ f ∷ es) id (suc last) d is = ap (λ fs. e ∷ fs) (with_last_id-set (f ∷ es) id last d (omega arith))

pub ends_in_id-positive : (es : List Elem) → ends_in_id es ≡ true → 0 < length es
ends_in_id-positive [] ends = cc
ends_in_id-positive (e ∷ es) ends = omega arith

pub is_key-renumbered : (k : KeyParts) (id : ℕ) → 1 ≤ id → id ≤ greatest_id → is_key k ≡ true → is_key (renumbered k id) ≡ true
is_key-renumbered k id low high lawful =
    let parts = and_parts (is_namespace k.namespace) (is_path k.elems) lawful in
    let path = and_parts (nat_le 1 (length k.elems) && nat_le (length k.elems) most_elements) (list_all is_elem k.elems) parts.1 in
    and_from (is_namespace k.namespace) (is_path (with_last_id k.elems id)) parts.0
    (and_from (nat_le 1 (length (with_last_id k.elems id)) && nat_le (length (with_last_id k.elems id)) most_elements) (list_all is_elem (with_last_id k.elems id))
    (rw length-with_last_id path.0)
    (all_elems-with_last_id k.elems id low high path.1))
