-- Lists with the same elements, each as often: what is made of both alike has them, too.
use Rattle.std.proofs.Common.{◌≡◌, ◌+◌, Bool, true, false, cond, List, [], ◌∷◌, ◌++◌, map, Option, Some, None, refl, sym, ap, ◌∙◌, arith}
use Rattle.std.specs.Prelude.{◌&&◌, ◌||◌, nat_lt, filter, count_by}
use Rattle.std.specs.List.{cons_option, filter_map, list_any}
use Rattle.std.proofs.lemmas.List.Sums.{sum_by-cons}
use Rattle.ds_shard.specs.Contents.{counted, HaveSame}
use Rattle.ds_shard.proofs.Currents.{lt_true}

-- ---- counts

pub counted-append : {X : Type 0} (p : X → Bool) (xs ys : List X) → counted p (xs ++ ys) ≡ counted p xs + counted p ys
counted-append p [] ys = omega arith
counted-append p (x ∷ xs) ys = let i = counted-append p xs ys in omega (arith, i)

pub counted-map : {X Y : Type 0} (p : Y → Bool) (f : X → Y) (xs : List X) → counted p (map f xs) ≡ counted (λ x. p (f x)) xs
counted-map p f [] = refl
counted-map p f (x ∷ xs) = ap (λ n. cond (p (f x)) 1 0 + n) (counted-map p f xs)

counted-filter : {X : Type 0} (p q : X → Bool) (xs : List X) → counted p (filter q xs) ≡ counted (λ x. q x && p x) xs
counted-filter p q [] = refl
counted-filter p q (x ∷ xs) = by (q x) refl (counted-filter p q xs) where
  by : (b : Bool) → q x ≡ b → counted p (filter q xs) ≡ counted (λ y. q y && p y) xs
      → counted p (filter q (x ∷ xs)) ≡ counted (λ y. q y && p y) (x ∷ xs)
  by true e i = rw e (ap (λ n. cond (p x) 1 0 + n) i)
  by false e i = rw e (omega (arith, i))

-- there is an item, and it passes the test
abbrev pub passes : {Y : Type 0} → (Y → Bool) → Option Y → Bool
passes p None = false
passes p (Some y) = p y

counted-filter_map : {X Y : Type 0} (p : Y → Bool) (f : X → Option Y) (xs : List X)
    → counted p (filter_map f xs) ≡ counted (λ x. passes p (f x)) xs
counted-filter_map p f [] = refl
counted-filter_map {X = X} {Y = Y} p f (x ∷ xs) = by (f x) (counted-filter_map p f xs) where
  by : (o : Option Y) → counted p (filter_map f xs) ≡ counted (λ y. passes p (f y)) xs
      → counted p (cons_option o (filter_map f xs)) ≡ cond (passes p o) 1 0 + counted (λ y. passes p (f y)) xs
  by None i = omega (arith, i)
  by (Some y) i = ap (λ n. cond (p y) 1 0 + n) i

-- std's count
pub counted_by : {X : Type 0} (p : X → Bool) (xs : List X) → counted p xs ≡ count_by p xs
counted_by p [] = refl
counted_by p (x ∷ xs) = ap (λ n. cond (p x) 1 0 + n) (counted_by p xs) ∙ sym (sum_by-cons (λ y. cond (p y) 1 0) x xs)

counted_some : {X : Type 0} (p : X → Bool) (xs : List X) → list_any p xs ≡ nat_lt 0 (counted p xs)
counted_some p [] = refl
counted_some p (x ∷ xs) = by (p x) (counted_some p xs) where
  by : (b : Bool) → list_any p xs ≡ nat_lt 0 (counted p xs) → (b || list_any p xs) ≡ nat_lt 0 (cond b 1 0 + counted p xs)
  by true i = sym (lt_true 0 (1 + counted p xs) (omega arith))
  by false i =
      let n : counted p xs ≡ 0 + counted p xs = omega arith in
      i ∙ ap (λ m. nat_lt 0 m) n

-- ---- the same elements

module _ {X : Type 0} (xs ys : List X) (same : HaveSame xs ys) where
  pub same-map : {Y : Type 0} (f : X → Y) → HaveSame (map f xs) (map f ys)
  same-map f = λ p. counted-map p f xs ∙ same (λ x. p (f x)) ∙ sym (counted-map p f ys)

  pub same-filter : (q : X → Bool) → HaveSame (filter q xs) (filter q ys)
  same-filter q = λ p. counted-filter p q xs ∙ same (λ x. q x && p x) ∙ sym (counted-filter p q ys)

  pub same-filter_map : {Y : Type 0} (f : X → Option Y) → HaveSame (filter_map f xs) (filter_map f ys)
  same-filter_map f = λ p. counted-filter_map p f xs ∙ same (λ x. passes p (f x)) ∙ sym (counted-filter_map p f ys)

  -- one of the items passes the test
  pub same-any : (p : X → Bool) → list_any p xs ≡ list_any p ys
  same-any p = counted_some p xs ∙ ap (λ n. nat_lt 0 n) (same p) ∙ sym (counted_some p ys)
