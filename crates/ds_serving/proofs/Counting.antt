-- Lists of numbers that have each number as often are the same but for the order.
use Rattle.std.proofs.Common.{◌≡◌, ℕ, zero, suc, ◌+◌, ◌<◌, ◌≤◌, Bool, true, false, cond, ◌==◌, List, [], ◌∷◌, ◌++◌, length, get_or, remove}
use Rattle.std.proofs.Common.{refl, ap, sym, ◌∙◌}
use Rattle.std.proofs.Common.{arith, eq-eqb, eqb-true, sum_by, flat_map, fold}
use Rattle.std.specs.List.Sorted.{IsPermutation}
use Rattle.std.proofs.lemmas.List.Sorted.{IsPermutation-refl, IsPermutation-sym, IsPermutation-trans, IsPermutation-cons}
use Rattle.std.proofs.lemmas.List.Sorted.{IsPermutation-remove, sum_by-IsPermutation}

-- how often a list has a number
abbrev pub count : ℕ → List ℕ → ℕ
count q [] = 0
count q (x ∷ xs) = cond (x == q) 1 0 + count q xs

abbrev pub total : {X : Type 0} → (X → ℕ) → List X → ℕ
total f [] = 0
total f (x ∷ xs) = f x + total f xs

-- sums from the front
total-from : {X : Type 0} (f : X → ℕ) (n : ℕ) (xs : List X) → fold (λ a x. a + f x) n xs ≡ n + total f xs
total-from f n [] = omega arith
total-from f n (x ∷ xs) = let rest = total-from f (n + f x) xs in omega (arith, rest)

total-is : {X : Type 0} (f : X → ℕ) (xs : List X) → sum_by f xs ≡ total f xs
total-is f xs = let all = total-from f 0 xs in omega (arith, all)

pub total-moved : {X : Type 0} (f : X → ℕ) (xs ys : List X) → IsPermutation xs ys → total f xs ≡ total f ys
total-moved f xs ys moved = sym (total-is f xs) ∙ sym (sum_by-IsPermutation f xs ys moved) ∙ total-is f ys

count-total : (q : ℕ) (xs : List ℕ) → count q xs ≡ total (λ x. cond (x == q) 1 0) xs
count-total q [] = refl
count-total q (x ∷ xs) = ap (λ n. cond (x == q) 1 0 + n) (count-total q xs)

pub count-moved : (q : ℕ) (xs ys : List ℕ) → IsPermutation xs ys → count q xs ≡ count q ys
count-moved q xs ys moved = count-total q xs ∙ total-moved (λ x. cond (x == q) 1 0) xs ys moved ∙ sym (count-total q ys)

pub count-append : (q : ℕ) (xs ys : List ℕ) → count q (xs ++ ys) ≡ count q xs + count q ys
count-append q [] ys = omega arith
count-append q (x ∷ xs) ys = let rest = count-append q xs ys in omega (arith, rest)

count-first : (x : ℕ) (xs : List ℕ) → count x (x ∷ xs) ≡ 1 + count x xs
count-first x xs = ap (λ b. cond b 1 0 + count x xs) (eq-eqb x x refl)

-- ---- where a number stands

abbrev Found : ℕ → List ℕ → Type 0
Found x ys = (i : ℕ) × (i < length ys) × (x ≡ get_or ys i x)

found : (x : ℕ) (ys : List ℕ) → 1 ≤ count x ys → Found x ys
found x [] some = absurd (omega (arith, some))
found x (y ∷ ys) some = by (found x ys) (y == x) refl some where
  by : (1 ≤ count x ys → Found x ys) → (b : Bool) → (y == x) ≡ b → 1 ≤ cond b 1 0 + count x ys → Found x (y ∷ ys)
  by rest true same some = (0, omega arith, sym (eqb-true y x same))
  by rest false same some =
      let later = rest (omega (arith, some)) in
      let below = later.1 in
      (suc later.0, omega (arith, below), later.2)

pub moved_by_counts : (xs ys : List ℕ) → ((q : ℕ) → count q xs ≡ count q ys) → IsPermutation xs ys
moved_by_counts [] [] same = IsPermutation-refl []
moved_by_counts [] (y ∷ ys) same = absurd (omega (arith, same y, count-first y ys))
moved_by_counts (x ∷ xs) ys same =
    let at = found x ys (omega (arith, same x, count-first x xs)) in
    let rest : List ℕ = remove ys at.0 in
    let out : IsPermutation ys (x ∷ rest) = IsPermutation-remove ys at.0 x at.1 at.2 in
    IsPermutation-trans (x ∷ xs) (x ∷ rest) ys
    (IsPermutation-cons x xs rest (moved_by_counts xs rest (λ q. let all = same q in let moved = count-moved q ys (x ∷ rest) out in omega (arith, all, moved))))
    (IsPermutation-sym ys (x ∷ rest) out)
