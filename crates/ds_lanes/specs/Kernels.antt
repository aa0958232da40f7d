-- What the kernels compute, on lists of any length.
use Rattle.std.specs.Prelude.{ℕ, ◌+◌, ◌-◌, ◌==◌, nat_le, nat_lt, Bool, ◌&&◌, if◌then◌else◌, List, [], ◌∷◌, map}

-- each byte taken from 255, so that a greater byte becomes a lesser one
abbrev pub complement : List ℕ → List ℕ
complement bytes = map (λ b. 255 - b) bytes

-- how many bytes come before the first zero byte: all of them where none is zero
abbrev pub first_zero : List ℕ → ℕ
first_zero [] = 0
first_zero (b ∷ bs) = if b == 0 then 0 else 1 + first_zero bs

-- the length of the longest list that both lists begin with
abbrev pub common_prefix : List ℕ → List ℕ → ℕ
common_prefix [] ys = 0
common_prefix (x ∷ xs) [] = 0
common_prefix (x ∷ xs) (y ∷ ys) = if x == y then 1 + common_prefix xs ys else 0

-- whether an entry that holds from the stamp `from` until before the stamp `to` is seen at the stamp `at`
abbrev pub is_visible : ℕ → ℕ → ℕ → Bool
is_visible from to at = nat_le from at && nat_lt at to

-- how many entries come before the first that is seen at `at`: all of them where none is
abbrev pub first_visible : List ℕ → List ℕ → ℕ → ℕ
first_visible [] ts at = 0
first_visible (f ∷ fs) [] at = 0
first_visible (f ∷ fs) (t ∷ ts) at = if is_visible f t at then 0 else 1 + first_visible fs ts at
