-- The strings that several lists have in common, and what bounds the work to find the next one.
use Rattle.std.specs.Prelude.{ℕ, min, List, [], ◌∷◌, Option, All, Contains, IsTrue, IsFalse, map, sum_by}
use Rattle.ds_base.specs.Least.{least_of}
use Rattle.ds_zigzag.specs.Spans.{is_below, is_above, count_between}

-- each of the lists has the string
abbrev pub IsCommon : List (List (List ℕ)) → List ℕ → Type 0
IsCommon lists x = All (λ strings. Contains strings x) lists

-- the string is common to the lists and above `after`, and no such string is below it
pub record IsNextCommon (after : Option (List ℕ)) (lists : List (List (List ℕ))) (x : List ℕ) : Type 0 where
  pub common : IsCommon lists x
  pub above : IsTrue (is_above after x)
  pub least : (y : List ℕ) → IsCommon lists y → IsTrue (is_above after y) → IsFalse (is_below y x)

-- no string that is common to the lists is above `after`
abbrev pub HasNoNextCommon : Option (List ℕ) → List (List (List ℕ)) → Type 0
HasNoNextCommon after lists = (y : List ℕ) → IsCommon lists y → IsFalse (is_above after y)

-- the least number, over the lists, of the strings that are above `after` and not above `last`
abbrev pub least_count : Option (List ℕ) → Option (List ℕ) → List (List (List ℕ)) → ℕ
least_count after last lists = least_of (map (count_between after last) lists)

-- the number of such strings, summed over the lists
abbrev pub total_count : Option (List ℕ) → Option (List ℕ) → List (List (List ℕ)) → ℕ
total_count after last lists = sum_by (count_between after last) lists
