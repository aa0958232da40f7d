-- The number of a text, with a minus in front and without.
use Rattle.std.proofs.Common.{◌≡◌, ℕ, List, true, false, ◌==◌, slice_index, drop}
use Rattle.fast_float.specs.Text.{scan}
use Rattle.serde_json.specs.Read.{number_of, number_from}

pub behind_minus : (s : List ℕ) → true ≡ (slice_index s 0 == 45) → number_of s ≡ number_from true (scan (drop 1 s))
unfolding number_of
behind_minus s minus = rw (← minus)

pub without_minus : (s : List ℕ) → false ≡ (slice_index s 0 == 45) → number_of s ≡ number_from false (scan s)
unfolding number_of
without_minus s none = rw (← none)
