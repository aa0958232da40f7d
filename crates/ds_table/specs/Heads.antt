-- The first bytes of rows as numbers that compare as the rows do, where the rows begin alike.
use Rattle.std.specs.Prelude.{◌≡◌, ℕ, ◌+◌, ◌*◌, ◌≤◌, zero, suc, List, [], ◌∷◌, length, take, drop}
use Rattle.std.specs.List.{AllByRecursion as Each}

-- The number with so many more bytes of a row behind it, as digits to the base 256. A row that ends before is read as if zeros
-- followed.
abbrev pub number_behind : ℕ → ℕ → List ℕ → ℕ
number_behind high zero row = high
number_behind high (suc more) [] = number_behind (high * 256 + 0) more []
number_behind high (suc more) (byte ∷ row) = number_behind (high * 256 + byte) more row

-- the head of a row: the number that the eight bytes behind the shared ones are
abbrev pub head_of : ℕ → List ℕ → ℕ
head_of shared row = number_behind 0 8 (drop shared row)

-- the heads of rows
abbrev pub heads_of : ℕ → List (List ℕ) → List ℕ
heads_of shared [] = []
heads_of shared (row ∷ rows) = head_of shared row ∷ heads_of shared rows

-- a row begins with the same `shared` bytes as the other one
pub record Shares (shared : ℕ) (other row : List ℕ) : Type 0 where
  pub long : shared ≤ length row
  pub same : take shared row ≡ take shared other

-- all rows begin with the same `shared` bytes
abbrev pub IsAlike : ℕ → List (List ℕ) → Type 0
IsAlike shared [] = Unit {0}
IsAlike shared (row ∷ rows) = Each (Shares shared row) (row ∷ rows)

-- what holds of the rows of a block, beside which their heads stand, and of the room for both
pub record IsRows (rows : List (List ℕ)) (heads : List ℕ) (shared rows_room heads_room : ℕ) : Type 0 where
  pub alike : IsAlike shared rows
  pub headed : heads ≡ heads_of shared rows
  pub rows_fit : 256 ≤ rows_room
  pub heads_fit : 256 ≤ heads_room
