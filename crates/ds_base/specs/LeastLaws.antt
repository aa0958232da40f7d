-- The least of some numbers stands among them, and none is less.
use Rattle.std.proofs.Common.{◌≡◌, ℕ, suc, zero, ◌<◌, ◌≤◌, List, [], ◌∷◌, length, get_or, refl, sym, ◌∙◌, ◌⊎◌, inl, inr, arith}
use Rattle.std.specs.Prelude.{min, map}
use Rattle.std.proofs.lemmas.List.{length-map, get_or-map}
use Rattle.ds_base.specs.Least.{least_of}

min_is : (m n : ℕ) → (min m n ≡ m) ⊎ (min m n ≡ n)
min_is m n = grind arith

-- it stands somewhere
pub least_of-at : (n : ℕ) (ns : List ℕ) → (j : ℕ) × (j < length (n ∷ ns)) × (get_or (n ∷ ns) j 0 ≡ least_of (n ∷ ns))
least_of-at n [] = (0, (omega arith), refl)
least_of-at n (m ∷ ns) = by (min_is n (least_of (m ∷ ns))) (least_of-at m ns) where
  by : (min n (least_of (m ∷ ns)) ≡ n) ⊎ (min n (least_of (m ∷ ns)) ≡ least_of (m ∷ ns))
      → (j : ℕ) × (j < length (m ∷ ns)) × (get_or (m ∷ ns) j 0 ≡ least_of (m ∷ ns))
      → (j : ℕ) × (j < length (n ∷ m ∷ ns)) × (get_or (n ∷ m ∷ ns) j 0 ≡ min n (least_of (m ∷ ns)))
  by (inl e) w = (0, (omega arith), sym e)
  by (inr e) (j, h, w) = (suc j, (omega arith), w ∙ sym e)

-- no number is less
pub least_of-le : (n : ℕ) (ns : List ℕ) (j : ℕ) → j < length (n ∷ ns) → least_of (n ∷ ns) ≤ get_or (n ∷ ns) j 0
least_of-le n [] zero b = omega arith
least_of-le n [] (suc j) b = absurd (omega arith)
least_of-le n (m ∷ ns) zero b = omega arith
least_of-le n (m ∷ ns) (suc j) b = let more = least_of-le m ns j (omega arith) in omega arith

-- the least of a number of each list, at a list that has it
pub least_at : {X : Type 0} (f : List X → ℕ) (lists : List (List X)) → 0 < length lists
    → (j : ℕ) × (j < length lists) × (f (get_or lists j []) ≡ least_of (map f lists))
least_at f [] h = absurd (omega arith)
least_at f (xs ∷ lists) h = by (least_of-at (f xs) (map f lists)) where
  by : (j : ℕ) × (j < length (f xs ∷ map f lists)) × (get_or (f xs ∷ map f lists) j 0 ≡ least_of (f xs ∷ map f lists))
      → (j : ℕ) × (j < length (xs ∷ lists)) × (f (get_or (xs ∷ lists) j []) ≡ least_of (map f (xs ∷ lists)))
  by (j, b, e) =
      let b' : j < length (xs ∷ lists) = omega (arith, length-map lists f) in
      (j, b', sym (get_or-map f (xs ∷ lists) j [] 0 b') ∙ e)

-- the least of them is at most that of each list
pub least_le : {X : Type 0} (f : List X → ℕ) (lists : List (List X)) (j : ℕ) → j < length lists
    → least_of (map f lists) ≤ f (get_or lists j [])
least_le f [] j b = absurd (omega arith)
least_le f (xs ∷ lists) j b =
    let b' : j < length (f xs ∷ map f lists) = omega (arith, length-map lists f) in
    let least = least_of-le (f xs) (map f lists) j b' in
    let same = get_or-map f (xs ∷ lists) j [] 0 b in
    omega arith
