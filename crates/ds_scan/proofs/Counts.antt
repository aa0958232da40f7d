-- Counts of what passes a test.
use Rattle.std.proofs.Common.{◌≡◌, ℕ, ◌+◌, ◌≤◌, Bool, true, false, cond, List, ◌∷◌, refl, arith}
use Rattle.std.specs.Prelude.{count_by}
use Rattle.std.proofs.lemmas.List.Sums.{sum_by-cons}

-- what a test of one string adds to a count
abbrev pub weight : Bool → ℕ
weight b = cond b 1 0

pub count_by-cons : {X : Type 0} (p : X → Bool) (x : X) (xs : List X) → count_by p (x ∷ xs) ≡ weight (p x) + count_by p xs
count_by-cons p x xs = sum_by-cons (λ y. cond (p y) 1 0) x xs

-- where one test isn't passed without the other
pub weight_up : (a b : Bool) → (a ≡ true → b ≡ true) → weight a ≤ weight b
weight_up true true h = omega arith
weight_up true false h = let never = h refl in cc
weight_up false b h = omega arith
