-- What a search knows of the places that it has passed, where a hit is what it looks for.
use Rattle.std.specs.Prelude.{◌≡◌, ℕ, ◌<◌, ◌≤◌, ◌==◌, if◌then◌else◌, Bool, true, false, not, List, slice_index}
use Rattle.std.specs.Int.Count.{count_trailing_zeros}
use Rattle.ds_lanes.specs.Kernels.{is_visible}

-- no place from i up to j, without j, is a hit
abbrev pub NoneIn : (ℕ → Bool) → ℕ → ℕ → Type 0
NoneIn hit i j = (k : ℕ) → i ≤ k → k < j → hit k ≡ false

-- the first place from i up to j, without j, that is a hit, or j where none is
pub record IsFirstHit (hit : ℕ → Bool) (i j place : ℕ) : Type 0 where
  pub within : place ≤ j
  pub passed : NoneIn hit i place
  pub here : place < j → hit place ≡ true

-- a zero byte
abbrev pub zero_at : List ℕ → ℕ → Bool
zero_at bytes k = slice_index bytes k == 0

-- two bytes that differ
abbrev pub differ_at : List ℕ → List ℕ → ℕ → Bool
differ_at xs ys k = not (slice_index xs k == slice_index ys k)

-- an entry that is seen at the stamp `at`
abbrev pub visible_at : List ℕ → List ℕ → ℕ → ℕ → Bool
visible_at from to at k = is_visible (slice_index from k) (slice_index to k) at

-- how many bits come before the lowest that is set: all `lanes` where none is
abbrev pub lanes_before : ℕ → ℕ → ℕ
lanes_before bits lanes = if bits == 0 then lanes else count_trailing_zeros 64 bits
