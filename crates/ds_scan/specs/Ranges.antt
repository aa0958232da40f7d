-- Ranges of rows: the rows that begin with a prefix, and what follows it in each.
use Rattle.std.specs.Prelude.{ℕ, ◌+◌, Bool, true, false, ◌&&◌, ◌==◌, nat_lt, if◌then◌else◌, Option, Some, None}
use Rattle.std.specs.Prelude.{List, [], ◌∷◌, ◌++◌, length, drop, map, filter, count_by}
use Rattle.ds_zigzag.specs.Spans.{is_within}
use Rattle.ds_table.specs.Versions.{is_below, in_range}

-- the row begins with the prefix
abbrev pub begins_with : List ℕ → List ℕ → Bool
begins_with [] row = true
begins_with (b ∷ bs) [] = false
begins_with (b ∷ bs) (c ∷ cs) = b == c && begins_with bs cs

-- what follows the prefix in a row that begins with it
abbrev pub rest : List ℕ → List ℕ → List ℕ
rest prefix row = drop (length prefix) row

-- which rows: those that begin with the prefix and of which the rest isn't below `low`, and is below `high` where that is given
pub record Range : Type 0 where
  pub prefix : List ℕ
  pub low : List ℕ
  pub high : Option (List ℕ)

-- the row is one of them
abbrev pub is_in : Range → List ℕ → Bool
is_in range row = begins_with range.prefix row && in_range range.low range.high (rest range.prefix row)

-- the rests of those of the rows that are in the range, one for each row
abbrev pub rests : Range → List (List ℕ) → List (List ℕ)
rests range rows = map (rest range.prefix) (filter (is_in range) rows)

-- what a scan of a range is seen as: the rows in which it seeks, and which of them it gives
pub record Ranged (R : Type 0) : Type 0 where
  pub rows : R
  pub range : Range

-- of the rows that aren't below `from`, and are below `below` where that is given, those that aren't above the one found;
-- all of them where none is
abbrev pub rows_passed : List ℕ → Option (List ℕ) → Option (List ℕ) → List (List ℕ) → ℕ
rows_passed from below found rows = count_by (λ row. in_range from below row && is_within found row) rows

-- with a byte before it: the end of what follows where that has one, else the byte itself has to rise
abbrev pub end_behind : ℕ → Option (List ℕ) → Option (List ℕ)
end_behind b (Some end) = Some (b ∷ end)
end_behind b None = if nat_lt b 255 then Some ((b + 1) ∷ []) else None

-- The least string of bytes above all that begin with the prefix: the last byte of it that can rise is one greater, and none
-- follows; none where no byte of it can rise.
abbrev pub prefix_end : List ℕ → Option (List ℕ)
prefix_end [] = None
prefix_end (b ∷ bs) = end_behind b (prefix_end bs)

-- the least string above the rows of a range that ends before the rest `high`, or with the prefix where that isn't given
abbrev pub end_of_range : List ℕ → Option (List ℕ) → Option (List ℕ)
end_of_range prefix None = prefix_end prefix
end_of_range prefix (Some high) = Some (prefix ++ high)

-- the string from which on is sought where none below `low` counts: `at_least`, or `low` where that is above it
abbrev pub later : List ℕ → List ℕ → List ℕ
later low at_least = if is_below at_least low then low else at_least
