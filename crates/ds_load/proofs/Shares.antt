-- What several take of a list, each what is its own: together they have each item once. And what as many tell as there are items, each at
-- most one of them, is told of each.
use Rattle.std.proofs.Common.{◌≡◌, ℕ, suc, ◌+◌, ◌*◌, ◌≤◌, List, [], ◌∷◌, ◌++◌, refl, ap, sym, ◌∙◌, arith, Bool, true, false}
use Rattle.std.proofs.Common.{cond, inl, inr, map, length, ◌⊎◌, subst}
use Rattle.std.specs.Prelude.{◌==◌, filter, flat_map, All, ⊤}
use Rattle.std.specs.List.{AllByRecursion}
use Rattle.std.proofs.lemmas.List.{map-append}
use Rattle.std.proofs.lemmas.List.Elements.{All-append, All-cons, All-nil}
use Rattle.ds_load.proofs.Counts.{times, once, times-append}

-- how many of these numbers are this one
abbrev pub served : ℕ → List ℕ → ℕ
served n [] = 0
served n (c ∷ cs) = cond (n == c) 1 0 + served n cs

module _ {X : Type 0} (f client : X → ℕ) (k : ℕ) where
  abbrev pub own : ℕ → List X → List X
  own c xs = filter (λ x. client x == c) xs

  abbrev pub all_own : List ℕ → List X → List X
  all_own cs xs = flat_map (λ c. own c xs) cs

  apart : (xs ys : List X) → times k (map f (xs ++ ys)) ≡ times k (map f xs) + times k (map f ys)
  apart xs ys = ap (times k) (map-append f xs ys) ∙ times-append k (map f xs) (map f ys)

  nothing_own : (cs : List ℕ) → all_own cs [] ≡ []
  nothing_own [] = refl
  nothing_own (c ∷ cs) = nothing_own cs

  one_more : (x : X) (xs : List X) (cs : List ℕ)
      → times k (map f (all_own cs (x ∷ xs))) ≡ served (client x) cs * once k (f x) + times k (map f (all_own cs xs))
  one_more x xs [] = omega arith
  one_more x xs (c ∷ cs) = by (client x == c) (one_more x xs cs) where
    by : (b : Bool) → times k (map f (all_own cs (x ∷ xs))) ≡ served (client x) cs * once k (f x) + times k (map f (all_own cs xs))
        → times k (map f (cond b (x ∷ own c xs) (own c xs) ++ all_own cs (x ∷ xs))) ≡ (cond b 1 0 + served (client x) cs) * once k (f x) +
        times k (map f (own c xs ++ all_own cs xs))
    by true later = omega (arith, later, apart (own c xs) (all_own cs (x ∷ xs)), apart (own c xs) (all_own cs xs))
    by false later = omega (arith, later, apart (own c xs) (all_own cs (x ∷ xs)), apart (own c xs) (all_own cs xs))

  pub parted : (cs : List ℕ) (xs : List X) → AllByRecursion (λ x. served (client x) cs ≡ 1) xs
      → times k (map f (all_own cs xs)) ≡ times k (map f xs)
  parted cs [] all = ap (λ xs. times k (map f xs)) (nothing_own cs)
  parted cs (x ∷ xs) all =
      let single : served (client x) cs * once k (f x) ≡ 1 * once k (f x) = ap (λ n. n * once k (f x)) all.0 in
      omega (arith, one_more x xs cs, single, parted cs xs all.1)

-- ---- numbers that are told of items

module _ {X Y : Type 0} (f : X → ℕ) (index : ℕ → ℕ) (told : Y → List ℕ) (P : ℕ → Type 0) where
  -- none, or one that stands for the item, of which this holds
  abbrev pub Tells : X → List ℕ → Type 0
  Tells x ns = (ns ≡ []) ⊎ ((n : ℕ) × (ns ≡ n ∷ []) × (index n ≡ f x) × P n)

  abbrev pub AreTold : List X → List Y → Type 0
  AreTold [] [] = ⊤
  AreTold (x ∷ xs) (y ∷ ys) = Tells x (told y) × AreTold xs ys
  AreTold _ _ = ⊥

  pub told-append : (xs xs' : List X) (ys ys' : List Y) → AreTold xs ys → AreTold xs' ys' → AreTold (xs ++ xs') (ys ++ ys')
  told-append [] xs' [] ys' a b = b
  told-append [] xs' (y ∷ ys) ys' a b = absurd a
  told-append (x ∷ xs) xs' [] ys' a b = absurd a
  told-append (x ∷ xs) xs' (y ∷ ys) ys' a b = (a.0, told-append xs xs' ys ys' a.1 b)

  one_least : (x : X) (ns more : List ℕ) → Tells x ns → length (ns ++ more) ≤ suc (length more)
  one_least x ns more (inl none) = omega (arith, ap (λ ms. length (ms ++ more)) none)
  one_least x ns more (inr (n, is, at, p)) = omega (arith, ap (λ ms. length (ms ++ more)) is)

  pub few : (xs : List X) (ys : List Y) → AreTold xs ys → length (flat_map told ys) ≤ length xs
  few [] [] a = omega arith
  few [] (y ∷ ys) a = absurd a
  few (x ∷ xs) [] a = absurd a
  few (x ∷ xs) (y ∷ ys) a = omega (arith, one_least x (told y) (flat_map told ys) a.0, few xs ys a.1)

  -- where there are as many as items, they stand for them in turn
  pub told_each : (xs : List X) (ys : List Y) → AreTold xs ys → length xs ≤ length (flat_map told ys)
      → map index (flat_map told ys) ≡ map f xs
  told_each [] [] a all = refl
  told_each [] (y ∷ ys) a all = absurd a
  told_each (x ∷ xs) [] a all = absurd a
  told_each (x ∷ xs) (y ∷ ys) a all = by a.0 (told_each xs ys a.1) where
    by : Tells x (told y) → (length xs ≤ length (flat_map told ys) → map index (flat_map told ys) ≡ map f xs)
        → map index (told y ++ flat_map told ys) ≡ f x ∷ map f xs
    by (inl none) later = absurd (omega (arith, all, few xs ys a.1, ap (λ ms. length (ms ++ flat_map told ys)) none))
    by (inr (n, is, at, p)) later =
        ap (λ ms. map index (ms ++ flat_map told ys)) is
        ∙ ap (λ m. m ∷ map index (flat_map told ys)) at
        ∙ ap (λ ms. f x ∷ ms) (later (omega (arith, all, ap (λ ms. length (ms ++ flat_map told ys)) is)))

  one_holds : (x : X) (ns : List ℕ) → Tells x ns → All P ns
  one_holds x ns (inl none) = subst (All P) (sym none) (All-nil P)
  one_holds x ns (inr (n, is, at, p)) = subst (All P) (sym is) (All-cons P n [] p (All-nil P))

  -- and it holds of all that are told
  pub all_hold : (xs : List X) (ys : List Y) → AreTold xs ys → All P (flat_map told ys)
  all_hold [] [] a = All-nil P
  all_hold [] (y ∷ ys) a = absurd a
  all_hold (x ∷ xs) [] a = absurd a
  all_hold (x ∷ xs) (y ∷ ys) a = All-append P (told y) (flat_map told ys) (one_holds x (told y) a.0) (all_hold xs ys a.1)
