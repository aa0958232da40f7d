-- The least of some numbers.
use Rattle.std.specs.Prelude.{ℕ, List, [], ◌∷◌, min}

-- the least of the numbers, of which there is at least one; 0 of none
abbrev pub least_of : List ℕ → ℕ
least_of [] = 0
least_of (n ∷ []) = n
least_of (n ∷ m ∷ ns) = min n (least_of (m ∷ ns))
