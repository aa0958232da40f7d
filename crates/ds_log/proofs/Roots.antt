-- A key is of a group where the group's root key is its own.
use Rattle.std.proofs.Common.{◌≡◌, ℕ, ◌≤◌, ◌↔◌, Bool, true, false, ◌&&◌, List, [], ◌∷◌, length, take, get_or, IsTrue, sym}
use Rattle.std.proofs.Common.{ap, ◌∙◌, arith}
use Rattle.std.proofs.lemmas.Bool.{and_parts, and_from}
use Rattle.std.proofs.lemmas.Bool.Decides.{same_from_decides}
use Rattle.std.proofs.lemmas.Slice.Eq.{bytes_eq-Decides}
use Rattle.std.specs.Prelude.{bytes_eq}
use Rattle.std.specs.Ordering.{eq_by_cmp}
use Rattle.ds_base.specs.declared.key.Elem.{Elem}
use Rattle.ds_base.specs.Keys.{KeyParts, root_of}
use Rattle.ds_base.specs.KeyOrder.{elem_cmp, same_key}
use Rattle.ds_base.specs.KeyOrderLaws.{same_elem-decides, same_key-decides}

pub first_elem : (es fs : List Elem) (e f : Elem) (b : Bool) → 1 ≤ length es → length fs ≡ 1 → e ≡ get_or es 0 e → f ≡ get_or fs 0 f
    → b ≡ eq_by_cmp elem_cmp e f → IsTrue b ↔ (take 1 es ≡ fs)
first_elem [] fs e f b some one at_e at_f is = absurd (omega arith)
first_elem (x ∷ xs) [] e f b some one at_e at_f is = absurd (omega arith)
first_elem (x ∷ xs) (y ∷ z ∷ zs) e f b some one at_e at_f is = absurd (omega arith)
first_elem (x ∷ xs) (y ∷ []) e f b some one at_e at_f is =
    let same = same_elem-decides e f in
    (λ t. ap (λ v. v ∷ []) (sym at_e ∙ same.0 (sym is ∙ t) ∙ at_f), λ t. is ∙ same.1 (at_e ∙ head_of t ∙ sym at_f))
  where
    head_of : x ∷ [] ≡ y ∷ [] → x ≡ y
    head_of t = cc

-- what the comparisons of the parts of two keys tell of the keys themselves
pub same_bytes : (a : Bool) (n m n' m' : List ℕ) → a ≡ bytes_eq n m → n ≡ n' → m ≡ m' → IsTrue a ↔ (n' ≡ m')
same_bytes a n m n' m' is en em =
    let test = bytes_eq-Decides n m in
    (λ t. sym en ∙ test.0 (sym is ∙ t) ∙ em, λ e. is ∙ test.1 (en ∙ e ∙ sym em))

pub same_elems : (b : Bool) (es fs es' fs' : List Elem) → IsTrue b ↔ (take 1 es ≡ fs) → es ≡ es' → fs ≡ fs' → IsTrue b ↔ (take 1 es' ≡ fs')
same_elems b es fs es' fs' test ee ef =
    (λ t. ap (take 1) (sym ee) ∙ test.0 t ∙ ef, λ e. test.1 (ap (take 1) ee ∙ e ∙ sym ef))

module _ (k g : KeyParts) (a : Bool) (namespaces : IsTrue a ↔ (k.namespace ≡ g.namespace)) where
  pub same_group : (b : Bool) → IsTrue b ↔ (take 1 k.elems ≡ g.elems) → (a && b) ≡ same_key (root_of k) g
  same_group b elems = same_from_decides {P = root_of k ≡ g} (a && b) (same_key (root_of k) g) (to, from) (same_key-decides (root_of k) g)
    where
      to : (a && b) ≡ true → root_of k ≡ g
      to t = let both = and_parts a b t in λ i. record { namespace = namespaces.0 both.0 i; elems = elems.0 both.1 i }

      from : root_of k ≡ g → (a && b) ≡ true
      from e = and_from a b (namespaces.1 (ap (λ (p : KeyParts). p.namespace) e)) (elems.1 (ap (λ (p : KeyParts). p.elems) e))

  pub other_group : a ≡ false → a ≡ same_key (root_of k) g
  other_group off = same_from_decides {P = root_of k ≡ g} a (same_key (root_of k) g)
      (λ t. absurd (never t), λ e. namespaces.1 (ap (λ (p : KeyParts). p.namespace) e)) (same_key-decides (root_of k) g)
    where
      never : a ≡ true → ⊥
      never t = cc
