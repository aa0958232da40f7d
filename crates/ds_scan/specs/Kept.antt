-- How a scan of a range keeps it: the prefix is the front of a buffer, and the end of the rows is made once.
use Rattle.std.specs.Prelude.{◌≡◌, ℕ, ◌≤◌, Bool, true, false, List, length, take, drop, Option, None}
use Rattle.std.specs.Option.{option_map}
use Rattle.ds_scan.specs.Ranges.{Range, end_of_range}

-- what follows the prefix in the end of the rows, where that is a bound on what follows it
abbrev pub high_of : Bool → ℕ → Option (List ℕ) → Option (List ℕ)
high_of true front end = option_map (drop front) end
high_of false front end = None

-- the range that is kept
abbrev pub range_of : List ℕ → ℕ → List ℕ → Bool → Option (List ℕ) → Range
range_of sought front low bounded end = record { prefix = take front sought; low = low; high = high_of bounded front end }

-- the buffer has the prefix, and the end is that of the range
pub record IsKept (sought : List ℕ) (front : ℕ) (bounded : Bool) (end : Option (List ℕ)) : Type 0 where
  pub within : front ≤ length sought
  pub ends : end ≡ end_of_range (take front sought) (high_of bounded front end)
