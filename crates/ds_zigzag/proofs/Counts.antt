-- Counts of the strings that pass a test, and sums of counts over lists.
use Rattle.std.proofs.Common.{◌≡◌, ℕ, suc, zero, ◌+◌, ◌<◌, ◌≤◌, Bool, true, false, cond, List, [], ◌∷◌, length, get_or, refl, sym, ◌∙◌, ap}
use Rattle.std.proofs.Common.{◌⊎◌, inl, inr, arith}
use Rattle.std.specs.Prelude.{Contains, count_by, sum_by, min, map}
use Rattle.std.proofs.lemmas.List.Sums.{sum_by-cons}
use Rattle.std.proofs.lemmas.List.{length-map, get_or-map}
use Rattle.ds_zigzag.proofs.First.{Contains-cases, not_Contains-nil}

-- what a test of one string adds to a count
abbrev pub weight : Bool → ℕ
weight b = cond b 1 0

pub count_by-cons : {X : Type 0} (p : X → Bool) (x : X) (xs : List X) → count_by p (x ∷ xs) ≡ weight (p x) + count_by p xs
count_by-cons p x xs = sum_by-cons (λ y. cond (p y) 1 0) x xs

weight_up : (a b : Bool) → (a ≡ true → b ≡ true) → weight a ≤ weight b
weight_up true true h = omega arith
weight_up true false h = absurd (no (h refl)) where
  no : false ≡ true → ⊥
  no e = cc
weight_up false b h = omega arith

weight_one : (a b : Bool) → a ≡ false → b ≡ true → weight a + 1 ≤ weight b
weight_one true b h g = cc
weight_one false true h g = omega arith
weight_one false false h g = cc

weight_both : (a b c : Bool) → (a ≡ true → c ≡ true) → (b ≡ true → c ≡ true) → (a ≡ true → b ≡ false) → weight a + weight b ≤ weight c
weight_both true true c h g n = cc (n refl)
weight_both true false true h g n = omega arith
weight_both true false false h g n = cc (h refl)
weight_both false true true h g n = omega arith
weight_both false true false h g n = cc (g refl)
weight_both false false c h g n = omega arith

module _ {X : Type 0} (p q : X → Bool) where
  -- what passes one test passes the other
  pub count_by-le : (xs : List X) → ((x : X) → p x ≡ true → q x ≡ true) → count_by p xs ≤ count_by q xs
  count_by-le [] h = omega arith
  count_by-le (x ∷ xs) h =
      let one = weight_up (p x) (q x) (h x) in
      let more = count_by-le xs h in
      rw (count_by-cons p x xs, count_by-cons q x xs) (omega arith)

  -- and one string of the list passes the second alone
  pub count_by-lt : (xs : List X) (s : X) → Contains xs s → p s ≡ false → q s ≡ true → ((x : X) → p x ≡ true → q x ≡ true) → count_by p xs + 1 ≤ count_by q xs
  count_by-lt [] s i f t h = absurd (not_Contains-nil s i)
  count_by-lt (x ∷ xs) s i f t h = by (λ e. count_by-lt xs s e f t h) (Contains-cases x xs s i) where
    by : (Contains xs s → count_by p xs + 1 ≤ count_by q xs) → (x ≡ s) ⊎ Contains xs s → count_by p (x ∷ xs) + 1 ≤ count_by q (x ∷ xs)
    by again (inl e) =
        let one = weight_one (p x) (q x) (ap p e ∙ f) (ap q e ∙ t) in
        let more = count_by-le xs h in
        rw (count_by-cons p x xs, count_by-cons q x xs) (omega arith)
    by again (inr e) =
        let one = weight_up (p x) (q x) (h x) in
        let more = again e in
        rw (count_by-cons p x xs, count_by-cons q x xs) (omega arith)

-- two tests that no string passes both, and a third that passes all of theirs
pub count_by-both : {X : Type 0} (p q r : X → Bool) (xs : List X) → ((x : X) → p x ≡ true → r x ≡ true) → ((x : X) → q x ≡ true → r x ≡ true) → ((x : X) → p x ≡ true → q x ≡ false) → count_by p xs + count_by q xs ≤ count_by r xs
count_by-both p q r [] h g n = omega arith
count_by-both p q r (x ∷ xs) h g n =
    let one = weight_both (p x) (q x) (r x) (h x) (g x) (n x) in
    let more = count_by-both p q r xs h g n in
    rw (count_by-cons p x xs, count_by-cons q x xs, count_by-cons r x xs) (omega arith)

-- ---- sums over lists, where what is counted may depend on the list's place

pub sums : {X : Type 0} → (ℕ → X → ℕ) → List X → ℕ
sums f [] = 0
sums f (x ∷ xs) = f 0 x + sums (λ j. f (suc j)) xs

-- the sum of what doesn't depend on the place
pub sums-sum_by : {X : Type 0} (f : X → ℕ) (xs : List X) → sums (λ j x. f x) xs ≡ sum_by f xs
unfolding sums
sums-sum_by f [] = refl
sums-sum_by f (x ∷ xs) = ap (λ n. f x + n) (sums-sum_by f xs) ∙ sym (sum_by-cons f x xs)

pub sums-le : {X : Type 0} (f g : ℕ → X → ℕ) (xs : List X) (d : X) → ((j : ℕ) → j < length xs → f j (get_or xs j d) ≤ g j (get_or xs j d)) → sums f xs ≤ sums g xs
unfolding sums
sums-le f g [] d h = omega arith
sums-le f g (x ∷ xs) d h =
    let one : f 0 x ≤ g 0 x = h 0 (omega arith) in
    let more = sums-le (λ j. f (suc j)) (λ j. g (suc j)) xs d (λ j b. h (suc j) (omega arith)) in
    omega arith

-- and at one place there is room for `more`
pub sums-more : {X : Type 0} (f g : ℕ → X → ℕ) (xs : List X) (i more : ℕ) (d : X) → i < length xs → ((j : ℕ) → j < length xs → f j (get_or xs j d) ≤ g j (get_or xs j d)) → f i (get_or xs i d) + more ≤ g i (get_or xs i d) → sums f xs + more ≤ sums g xs
unfolding sums
sums-more f g [] i more d b h e = omega arith
sums-more f g (x ∷ xs) zero more d b h e =
    let rest = sums-le (λ j. f (suc j)) (λ j. g (suc j)) xs d (λ j b. h (suc j) (omega arith)) in
    omega arith
sums-more f g (x ∷ xs) (suc i) more d b h e =
    let one : f 0 x ≤ g 0 x = h 0 (omega arith) in
    let rest = sums-more (λ j. f (suc j)) (λ j. g (suc j)) xs i more d (omega arith) (λ j b. h (suc j) (omega arith)) e in
    omega arith

-- an element that is there, whatever would stand for one that isn't
pub get_or-default : {X : Type 0} (xs : List X) (i : ℕ) (d e : X) → i < length xs → get_or xs i d ≡ get_or xs i e
get_or-default [] i d e h = absurd (omega arith)
get_or-default (x ∷ xs) zero d e h = refl
get_or-default (x ∷ xs) (suc i) d e h = get_or-default xs i d e (omega arith)
