-- The order of strings, and how many of a list lie between two of them.
use Rattle.std.specs.Prelude.{ℕ, Bool, true, ◌&&◌, not, List, Option, Some, None, count_by}
use Rattle.std.specs.Ordering.{is_lt}
use Rattle.ds_base.specs.KeyOrder.{bytes_cmp}

-- strings compare byte by byte, and one that another begins with comes first
abbrev pub is_below : List ℕ → List ℕ → Bool
is_below x y = is_lt (bytes_cmp x y)

-- the string isn't below `from`
abbrev pub is_from : List ℕ → List ℕ → Bool
is_from from x = not (is_below x from)

-- the string is above `after`; without an `after` each is
abbrev pub is_above : Option (List ℕ) → List ℕ → Bool
is_above None x = true
is_above (Some after) x = is_below after x

-- the string isn't above `last`; without a `last` none is
abbrev pub is_within : Option (List ℕ) → List ℕ → Bool
is_within None x = true
is_within (Some last) x = not (is_below last x)

-- how many of the strings aren't below `from` and aren't above `last`
abbrev pub count_from : List ℕ → Option (List ℕ) → List (List ℕ) → ℕ
count_from from last strings = count_by (λ x. is_from from x && is_within last x) strings

-- How many of the strings are above `after` and aren't above `last`. Two such spans have no string in common where the
-- one begins after the last of the other, so these numbers add up.
abbrev pub count_between : Option (List ℕ) → Option (List ℕ) → List (List ℕ) → ℕ
count_between after last strings = count_by (λ x. is_above after x && is_within last x) strings
