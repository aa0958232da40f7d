-- Lists of which no two items are the same: of each mark the first are all.
use Rattle.std.proofs.Common.{◌≡◌, ℕ, zero, suc, ◌+◌, ◌<◌, Bool, true, false, ◌||◌, List, [], ◌∷◌, ◌++◌, map, fold, take, refl, sym, ap}
use Rattle.std.proofs.Common.{◌∙◌, append_assoc, append-nil, arith, subst}
use Rattle.std.specs.Prelude.{flat_map, ⊤}
use Rattle.std.specs.List.{AllByRecursion, list_any}
use Rattle.std.specs.Ordering.{match_ordering}
use Rattle.std.specs.declared.cmp.Ordering.{Ordering}
use Rattle.std.specs.declared.cmp.Ordering.TheVariants.{Less, Equal, Greater}
use Rattle.ds_base.specs.Sorting.{insert_by, sorted_by}
use Rattle.ds_model.proofs.AllOf.{all-append, all-insert}
use Rattle.ds_engine.proofs.PartFirsts.{AreParts, firsts, new, taken_all, there}
use Rattle.ds_pages.proofs.FirstLaws.{with_item}

module _ {X : Type 0} (same : X → X → Bool) where
  -- no item is the same as one before it
  abbrev pub Apart : List X → Type 0
  Apart [] = ⊤
  Apart (x ∷ xs) = AllByRecursion (λ y. same y x ≡ false) xs × Apart xs

  both_false : (a b : Bool) → (a || b) ≡ false → (a ≡ false) × (b ≡ false)
  both_false true b e = absurd (cc e)
  both_false false b e = (refl, e)

  pushed : (kept : List X) (x : X) → Apart kept → list_any (same x) kept ≡ false → Apart (kept ++ x ∷ [])
  pushed [] x a none = (tt, tt)
  pushed (k ∷ kept) x a none =
      let both = both_false (same x k) (list_any (same x) kept) none in
      (all-append (λ y. same y k ≡ false) kept (x ∷ []) a.0 (both.0, tt), pushed kept x a.1 both.1)

  -- of each mark the first
  pub apart_firsts : (kept xs : List X) → Apart kept → Apart (firsts same kept xs)
  apart_firsts kept [] a = a
  apart_firsts kept (x ∷ xs) a = by (λ ks p. apart_firsts ks xs p) (list_any (same x) kept) refl where
    by : ((ks : List X) → Apart ks → Apart (firsts same ks xs)) → (b : Bool) → list_any (same x) kept ≡ b
        → Apart (firsts same (with_item same kept x) xs)
    by rest true is = subst (λ ks. Apart (firsts same ks xs)) (sym (there same kept x is)) (rest kept a)
    by rest false is =
        subst (λ ks. Apart (firsts same ks xs)) (sym (new same kept x is)) (rest (kept ++ x ∷ []) (pushed kept x a is))

  pub apart_taken : (n : ℕ) (xs : List X) → Apart xs → Apart (take n xs)
  apart_taken zero xs a = tt
  apart_taken (suc n) [] a = tt
  apart_taken (suc n) (x ∷ xs) a = (taken_all (λ y. same y x ≡ false) n xs a.0, apart_taken n xs a.1)

  not_before : (front : List X) (x : X) (rest : List X) → Apart (front ++ x ∷ rest) → list_any (same x) front ≡ false
  not_before [] x rest a = refl
  not_before (f ∷ front) x rest a =
      ap (λ b. b || list_any (same x) front) (own front a.0) ∙ not_before front x rest a.1
    where
      own : (ys : List X) → AllByRecursion (λ y. same y f ≡ false) (ys ++ x ∷ rest) → same x f ≡ false
      own [] all = all.0
      own (y ∷ ys) all = own ys all.1

  -- all are the first of their marks
  pub apart_all : (front xs : List X) → Apart (front ++ xs) → firsts same front xs ≡ front ++ xs
  apart_all front [] a = sym (append-nil front)
  apart_all front (x ∷ xs) a =
      ap (λ ks. firsts same ks xs) (new same front x (not_before front x xs a))
      ∙ apart_all (front ++ x ∷ []) xs (subst Apart (sym (append_assoc front (x ∷ []) xs)) a)
      ∙ append_assoc front (x ∷ []) xs

  joined : (xs ys : List X) → Apart xs → Apart ys → AllByRecursion (λ x. AllByRecursion (λ y. same y x ≡ false) ys) xs → Apart (xs ++ ys)
  joined [] ys a b c = b
  joined (x ∷ xs) ys a b c = (all-append (λ y. same y x ≡ false) xs ys a.0 c.0, joined xs ys a.1 b c.1)

  -- ---- in any order

  module _ (flip : (x y : X) → same x y ≡ same y x) (R : X → X → Ordering) where
    turned : (x : X) (ys : List X) → AllByRecursion (λ y. same x y ≡ false) ys → AllByRecursion (λ y. same y x ≡ false) ys
    turned x [] a = tt
    turned x (y ∷ ys) a = (flip y x ∙ a.0, turned x ys a.1)

    inserted : (x : X) (ys : List X) → AllByRecursion (λ y. same x y ≡ false) ys → Apart ys → Apart (insert_by R ys x)
    inserted x [] a b = (tt, tt)
    inserted x (y ∷ ys) a b = by (inserted x ys a.1 b.1) (R x y) where
      by : Apart (insert_by R ys x) → (r : Ordering) → Apart (match_ordering r (x ∷ y ∷ ys) (x ∷ y ∷ ys) (y ∷ insert_by R ys x))
      by rest Less = (turned x (y ∷ ys) a, b)
      by rest Equal = (turned x (y ∷ ys) a, b)
      by rest Greater = (all-insert (λ z. same z y ≡ false) R ys x a.0 b.0, rest)

    folded : (done xs : List X) → Apart done → Apart xs → AllByRecursion (λ x. AllByRecursion (λ y. same x y ≡ false) done) xs
        → Apart (fold (insert_by R) done xs)
    folded done [] a b c = a
    folded done (x ∷ xs) a b c = folded (insert_by R done x) xs (inserted x done c.0 a) b.1 (each xs b.0 c.1) where
      each : (zs : List X) → AllByRecursion (λ z. same z x ≡ false) zs
          → AllByRecursion (λ z. AllByRecursion (λ y. same z y ≡ false) done) zs
          → AllByRecursion (λ z. AllByRecursion (λ y. same z y ≡ false) (insert_by R done x)) zs
      each [] p q = tt
      each (z ∷ zs) p q = (all-insert (λ y. same z y ≡ false) R done x p.0 q.0, each zs p.1 q.1)

    none : (xs : List X) → AllByRecursion (λ x. AllByRecursion (λ y. same x y ≡ false) []) xs
    none [] = tt
    none (x ∷ xs) = (tt, none xs)

    -- in order they are still apart, so all are the first of their marks
    pub apart_sorted : (xs : List X) → Apart xs → firsts same [] (sorted_by R xs) ≡ sorted_by R xs
    apart_sorted xs a = apart_all [] (sorted_by R xs) (folded [] xs tt a (none xs))

  -- ---- in parts

  module _ {V : Type 0} (f : V → List X) (place : X → ℕ) (alike : (x y : X) → same x y ≡ true → place x ≡ place y)
      (each : (v : V) → Apart (f v)) where
    other : (x y : X) → (place x ≡ place y → ⊥) → same x y ≡ false
    other x y apart = by (same x y) refl where
      by : (b : Bool) → same x y ≡ b → b ≡ false
      by true is = absurd (apart (alike x y is))
      by false is = refl

    of_another : (x : X) (k : ℕ) (ys : List X) → place x < k → AllByRecursion (λ y. place y ≡ k) ys
        → AllByRecursion (λ y. same y x ≡ false) ys
    of_another x k [] less a = tt
    of_another x k (y ∷ ys) less a = (other y x (λ e. let b = a.0 in absurd (omega (arith, less, b, e))), of_another x k ys less a.1)

    behind : (x : X) (k : ℕ) (vs : List V) → place x < k → AreParts place k (map f vs)
        → AllByRecursion (λ y. same y x ≡ false) (flat_map f vs)
    behind x k [] less a = tt
    behind x k (v ∷ vs) less a =
        all-append (λ y. same y x ≡ false) (f v) (flat_map f vs) (of_another x k (f v) less a.0)
        (behind x (k + 1) vs (omega (arith, less)) a.1)

    across : (k : ℕ) (xs : List X) (vs : List V) → AllByRecursion (λ x. place x ≡ k) xs → AreParts place (k + 1) (map f vs)
        → AllByRecursion (λ x. AllByRecursion (λ y. same y x ≡ false) (flat_map f vs)) xs
    across k [] vs a b = tt
    across k (x ∷ xs) vs a b = (behind x (k + 1) vs (let c = a.0 in omega (arith, c)) b, across k xs vs a.1 b)

    -- what parts of different numbers give is apart, where what each gives is
    pub apart_parts : (k : ℕ) (vs : List V) → AreParts place k (map f vs) → Apart (flat_map f vs)
    apart_parts k [] a = tt
    apart_parts k (v ∷ vs) a = joined (f v) (flat_map f vs) (each v) (apart_parts (k + 1) vs a.1) (across k (f v) vs a.0 a.1)
