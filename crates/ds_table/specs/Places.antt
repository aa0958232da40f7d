-- Where in the order a row would stand.
use Rattle.std.specs.Prelude.{◌≡◌, ℕ, ◌+◌, ◌<◌, ◌≤◌, Bool, true, false, not, if◌then◌else◌, List, [], ◌∷◌, length, take, drop}
use Rattle.std.specs.Prelude.{slice_index_or}
use Rattle.std.specs.List.{AllByRecursion as Each}
use Rattle.ds_table.specs.Versions.{RowVersion, is_below}
use Rattle.ds_table.specs.Blocks.{joined}

-- a row comes before another one: it is below, or the same where that is to come before, too
abbrev pub row_before : List ℕ → Bool → List ℕ → Bool
row_before other same_too row = if same_too then not (is_below other row) else is_below row other

-- the row of the version does
abbrev pub comes_before : List ℕ → Bool → RowVersion → Bool
comes_before other same_too v = row_before other same_too v.row

-- no row is below one that stands before it
abbrev pub IsRising : List (List ℕ) → Type 0
IsRising [] = Unit {0}
IsRising (r ∷ rs) = Each (λ s. is_below s r ≡ false) rs × IsRising rs

-- the test holds of the first `place` ones, and of no other
pub record IsPlace {A : Type 0} (test : A → Bool) (xs : List A) (place : ℕ) : Type 0 where
  pub within : place ≤ length xs
  pub before : Each (λ x. test x ≡ true) (take place xs)
  pub after : Each (λ x. test x ≡ false) (drop place xs)

-- The test holds of the first version of n blocks, which are the first ones: so it holds of all versions before the last
-- of these firsts, and of none in the blocks that follow.
pub record IsBegun (test : RowVersion → Bool) (blocks : List (List RowVersion)) (n : ℕ) : Type 0 where
  pub within : n ≤ length blocks
  pub before : (m : ℕ) → n ≡ m + 1 → Each (λ v. test v ≡ true) (joined (take m blocks))
  pub begun : (m : ℕ) → n ≡ m + 1 → (d : RowVersion) → test (slice_index_or (slice_index_or blocks m []) 0 d) ≡ true
  pub after : Each (λ v. test v ≡ false) (joined (drop n blocks))

-- Of the blocks before this one the test holds throughout, of the blocks after it nowhere, and it is one of them if there
-- are any. Unless it is the first one, the test holds of its first version.
pub record IsPlaced (test : RowVersion → Bool) (blocks : List (List RowVersion)) (i : ℕ) : Type 0 where
  pub within : 0 < length blocks → i < length blocks
  pub before : Each (λ v. test v ≡ true) (joined (take i blocks))
  pub after : Each (λ v. test v ≡ false) (joined (drop (i + 1) blocks))
  pub begun : 0 < i → (d : RowVersion) → test (slice_index_or (slice_index_or blocks i []) 0 d) ≡ true
