-- The first string of a list that passes a test, and membership by cases.
use Rattle.std.proofs.Common.{◌≡◌, ℕ, suc, zero, Bool, true, false, cond, List, [], ◌∷◌, refl, ap, subst, ◌⊎◌, inl, inr, arith}
use Rattle.std.specs.Prelude.{Some, None, Contains, find}
use Rattle.std.specs.List.{AllByRecursion}
use Rattle.std.specs.List.Sorted.{IsStrictlySortedBy}
use Rattle.std.specs.declared.cmp.Ordering.TheVariants.{Less}
use Rattle.std.specs.Ordering.{is_lt}
use Rattle.ds_base.specs.KeyOrder.{bytes_cmp}
use Rattle.ds_zigzag.specs.Spans.{is_below}
use Rattle.ds_zigzag.proofs.Order.{not_below_itself, below_back, not_both}

pub Contains-cases : {X : Type 0} (x : X) (xs : List X) (y : X) → Contains (x ∷ xs) y → (x ≡ y) ⊎ Contains xs y
Contains-cases x xs y (zero, h, e) = inl e
Contains-cases x xs y (suc k, h, e) = inr (k, (omega arith), e)

pub not_Contains-nil : {X : Type 0} (y : X) → Contains [] y → ⊥
not_Contains-nil y (k, h, e) = omega arith

pub Contains-head : {X : Type 0} (x : X) (xs : List X) → Contains (x ∷ xs) x
Contains-head x xs = (0, (omega arith), refl)

pub Contains-tail : {X : Type 0} (x : X) (xs : List X) (y : X) → Contains xs y → Contains (x ∷ xs) y
Contains-tail x xs y (k, h, e) = (suc k, (omega arith), e)

some_same : {X : Type 0} (x y : X) → Some x ≡ Some y → x ≡ y
some_same x y e = cc

module _ {X : Type 0} (p : X → Bool) where
  -- what is found is of the list
  pub found_in : (xs : List X) (s : X) → find p xs ≡ Some s → Contains xs s
  found_in [] s e = absurd (none e) where
    none : None ≡ Some s → ⊥
    none e = cc
  found_in (x ∷ xs) s e = by (found_in xs s) (p x) e where
    by : (find p xs ≡ Some s → Contains xs s) → (b : Bool) → cond b (Some x) (find p xs) ≡ Some s → Contains (x ∷ xs) s
    by again true e = subst (λ v. Contains (x ∷ xs) v) (some_same x s e) (Contains-head x xs)
    by again false e = Contains-tail x xs s (again e)

  -- what is found passes
  pub found_passes : (xs : List X) (s : X) → find p xs ≡ Some s → p s ≡ true
  found_passes [] s e = absurd (none e) where
    none : None ≡ Some s → ⊥
    none e = cc
  found_passes (x ∷ xs) s e = by (found_passes xs s) (p x) refl e where
    by : (find p xs ≡ Some s → p s ≡ true) → (b : Bool) → p x ≡ b → cond b (Some x) (find p xs) ≡ Some s → p s ≡ true
    by again true q e = subst (λ v. p v ≡ true) (some_same x s e) q
    by again false q e = again e

  -- where nothing is found, nothing passes
  pub none_passes : (xs : List X) → find p xs ≡ None → (y : X) → Contains xs y → p y ≡ false
  none_passes [] e y h = absurd (not_Contains-nil y h)
  none_passes (x ∷ xs) e y h = by (λ n. none_passes xs n y) (p x) refl e (Contains-cases x xs y h) where
    by : (find p xs ≡ None → Contains xs y → p y ≡ false) → (b : Bool) → p x ≡ b → cond b (Some x) (find p xs) ≡ None → (x ≡ y) ⊎ Contains xs y → p y ≡ false
    by again true q e h = absurd (some e) where
      some : Some x ≡ None → ⊥
      some e = cc
    by again false q e (inl s) = subst (λ v. p v ≡ false) s q
    by again false q e (inr t) = again e t

-- each element of a list of which all are true
all_at : (P : List ℕ → Type 0) (xs : List (List ℕ)) (y : List ℕ) → AllByRecursion P xs → Contains xs y → P y
all_at P [] y a h = absurd (not_Contains-nil y h)
all_at P (x ∷ xs) y a h = elim (Contains-cases x xs y h) [ inl s ↦ subst P s a.0 | inr t ↦ all_at P xs y a.1 t ]

-- in an ascending list no string that passes is below the one that is found
pub found_is_least : (p : List ℕ → Bool) (xs : List (List ℕ)) (s : List ℕ) → IsStrictlySortedBy bytes_cmp xs → find p xs ≡ Some s → (y : List ℕ) → Contains xs y → p y ≡ true → is_below y s ≡ false
unfolding IsStrictlySortedBy
found_is_least p [] s o e y h q = absurd (not_Contains-nil y h)
found_is_least p (x ∷ xs) s o e y h q = by (λ n t. found_is_least p xs s o.1 n y t q) (p x) refl e where
  later : x ≡ s → (x ≡ y) ⊎ Contains xs y → is_below y s ≡ false
  later i (inl t) = subst (λ v. is_below y v ≡ false) i (subst (λ v. is_below v x ≡ false) t (not_below_itself x))
  later i (inr t) = subst (λ v. is_below y v ≡ false) i (below_back x y (ap is_lt (all_at (λ z. bytes_cmp x z ≡ Less) xs y o.0 t)))

  rest : (Contains xs y → is_below y s ≡ false) → p x ≡ false → (x ≡ y) ⊎ Contains xs y → is_below y s ≡ false
  rest again n (inl t) = absurd (not_both (p y) q (subst (λ v. p v ≡ false) t n))
  rest again n (inr t) = again t

  by : (find p xs ≡ Some s → Contains xs y → is_below y s ≡ false) → (b : Bool) → p x ≡ b → cond b (Some x) (find p xs) ≡ Some s → is_below y s ≡ false
  by again true n e = later (some_same x s e) (Contains-cases x xs y h)
  by again false n e = rest (again e) n (Contains-cases x xs y h)
