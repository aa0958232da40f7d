-- A walk from one common string to the next: where it stands, and how the steps of its calls add up.
use Rattle.std.specs.Prelude.{ℕ, ◌+◌, ◌*◌, ◌≤◌, Bool, true, false, List, Option, Some, None, IsTrue}
use Rattle.ds_zigzag.specs.Spans.{is_above}
use Rattle.ds_zigzag.specs.CommonStrings.{least_count, total_count}

-- over how many scans it goes, and the string at which it stands: its last answer, before its first one the string that it
-- began above, and none where it began above none
pub record Standing : Type 0 where
  pub scans : ℕ
  pub last : Option (List ℕ)

-- where a walk stands that has these bytes: at them, or nowhere
abbrev pub standing_at : Bool → List ℕ → Option (List ℕ)
standing_at true bytes = Some bytes
standing_at false bytes = None

-- What a walk over n scans that began above `start` may take up to its answer `last`, whatever the number of its answers: of
-- strings above `start` and not above `last`, twice those of the scan that has the fewest, for each scan, and all passed
-- ones. A walk that stands nowhere took nothing.
abbrev pub steps_up_to : ℕ → Option (List ℕ) → Option (List ℕ) → List (List (List ℕ)) → List (List (List ℕ)) → ℕ
steps_up_to n start None strings passed = 0
steps_up_to n start (Some last) strings passed = n * (2 * least_count start (Some last) strings) + total_count start (Some last) passed

-- what it may take to its end
abbrev pub steps_to_end : ℕ → Option (List ℕ) → List (List (List ℕ)) → List (List (List ℕ)) → ℕ
steps_to_end n start strings passed = n * (2 * least_count start None strings + 2) + total_count start None passed

-- A walk over n scans that began above `start` when `begun` steps were counted stands at `last` now that `now` are counted.
-- Steps that others take between its calls raise `begun` and `now` alike.
pub record IsWalked (n : ℕ) (start last : Option (List ℕ)) (strings passed : List (List (List ℕ))) (begun now : ℕ) : Type 0 where
  -- what is above the string at which it stands is above `start`
  pub onward : (x : List ℕ) → IsTrue (is_above last x) → IsTrue (is_above start x)
  pub within : now ≤ begun + steps_up_to n start last strings passed
