-- Lists of numbers: how often a number stands in them, and the numbers between two bounds.
use Rattle.std.proofs.Common.{◌≡◌, ℕ, zero, suc, ◌+◌, ◌-◌, ◌<◌, ◌≤◌, Bool, true, false, List, [], ◌∷◌, ◌++◌, refl, sym, ap, ◌∙◌, subst}
use Rattle.std.proofs.Common.{arith}
use Rattle.std.specs.Prelude.{cond, ◌==◌, IsPermutation}
use Rattle.std.specs.List.{range_with_len}
use Rattle.std.proofs.lemmas.Bool.Decides.{nat_tests}
use Rattle.std.proofs.lemmas.List.Sums.{sum_by-append, sum_by-cons}
use Rattle.std.proofs.lemmas.List.Sorted.{IsPermutation-refl, IsPermutation-cons, IsPermutation-middle, IsPermutation-sym}
use Rattle.std.proofs.lemmas.List.Sorted.{IsPermutation-trans}
use Rattle.ds_draw.specs.Draws.{numbers}
use Rattle.ds_draw.specs.Rule.{times}

pub times-append : (n : ℕ) (xs ys : List ℕ) → times n (xs ++ ys) ≡ times n xs + times n ys
times-append n xs ys = sum_by-append (λ x. cond (x == n) 1 0) xs ys

pub times-cons : (n x : ℕ) (xs : List ℕ) → times n (x ∷ xs) ≡ cond (x == n) 1 0 + times n xs
times-cons n x xs = sum_by-cons (λ x. cond (x == n) 1 0) x xs

times-self : (n : ℕ) (xs : List ℕ) → times n (n ∷ xs) ≡ 1 + times n xs
times-self n xs = times-cons n n xs ∙ grind (arith, nat_tests)

range-append : (a m n : ℕ) → range_with_len a m ++ range_with_len (a + m) n ≡ range_with_len a (m + n)
range-append a zero n = grind arith
range-append a (suc m) n =
    let next : a + suc m ≡ (a + 1) + m = omega arith in
    let more : suc (m + n) ≡ suc m + n = omega arith in
    ap (λ k. a ∷ (range_with_len (a + 1) m ++ range_with_len k n)) next ∙ ap (λ l. a ∷ l) (range-append (a + 1) m n) ∙ ap (range_with_len a) more

pub numbers-append : (a b c : ℕ) → a ≤ b → b ≤ c → numbers a b ++ numbers b c ≡ numbers a c
numbers-append a b c low high =
    let here : a + (b - a) ≡ b = omega arith in
    let sum : (b - a) + (c - b) ≡ c - a = omega arith in
    ap (λ k. numbers a b ++ range_with_len k (c - b)) (sym here) ∙ range-append a (b - a) (c - b) ∙ ap (range_with_len a) sum

-- a number that stands in the list splits it
split_at : (n : ℕ) (xs : List ℕ) → 0 < times n xs → (front : List ℕ) × (back : List ℕ) × (xs ≡ front ++ n ∷ back)
split_at n [] h = absurd (omega arith)
split_at n (x ∷ xs) h = here (x == n) refl (split_at n xs)
  where
    here : (b : Bool) → (x == n) ≡ b → (0 < times n xs → (front : List ℕ) × (back : List ℕ) × (xs ≡ front ++ n ∷ back)) → (front : List ℕ) × (back : List ℕ) × (x ∷ xs ≡ front ++ n ∷ back)
    here true e behind = let same : x ≡ n = grind (arith, nat_tests) in ([], xs, ap (λ y. y ∷ xs) same)
    here false e behind =
        let c = times-cons n x xs in
        let one_if : Bool → ℕ = λ t. cond t 1 0 in
        let other : one_if (x == n) ≡ 0 = ap one_if e in
        let rest = behind (omega arith) in
        (x ∷ rest.0, rest.1, ap (λ l. x ∷ l) rest.2)

-- two lists in which each number stands equally often have the same elements
pub IsPermutation-from_times : (xs ys : List ℕ) → ((n : ℕ) → times n xs ≡ times n ys) → IsPermutation xs ys
IsPermutation-from_times [] [] h = IsPermutation-refl []
IsPermutation-from_times [] (y ∷ ys) h = let e = h y in let o = times-self y ys in absurd (omega arith)
IsPermutation-from_times (x ∷ xs) ys h =
    let o = times-self x xs in
    let e = h x in
    let s = split_at x ys (omega arith) in
    let fewer : (n : ℕ) → times n xs ≡ times n (s.0 ++ s.1) = λ n.
    (let e : times n (x ∷ xs) ≡ times n (s.0 ++ x ∷ s.1) = h n ∙ ap (times n) s.2 in
    let a = times-append n s.0 (x ∷ s.1) in
    let b = times-append n s.0 s.1 in
    let c = times-cons n x s.1 in
    let d = times-cons n x xs in
    omega arith) in
    let rest = IsPermutation-cons x xs (s.0 ++ s.1) (IsPermutation-from_times xs (s.0 ++ s.1) fewer) in
    let whole = IsPermutation-trans (x ∷ xs) (x ∷ (s.0 ++ s.1)) (s.0 ++ x ∷ s.1) rest (IsPermutation-sym (s.0 ++ x ∷ s.1) (x ∷ (s.0 ++ s.1)) (IsPermutation-middle s.0 x s.1)) in
    subst (λ (l : List ℕ). IsPermutation (x ∷ xs) l) (sym s.2) whole
