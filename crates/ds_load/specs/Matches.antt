-- What is told of a load: a definition of the number of its items alone.
use Rattle.std.specs.Prelude.{ℕ, ◌%◌, ◌==◌, List, [], ◌∷◌, ◌++◌, Option, Some, None, codes, decimal, filter, length}
use Rattle.std.specs.List.{range_with_len}

-- the items that leave 3 by 10 and 2 by 7 are those that leave 23 by 70
abbrev pub matching : ℕ → List ℕ
matching n = filter (λ i. i % 70 == 23) (range_with_len 0 n)

abbrev pub last_of : List ℕ → Option ℕ
last_of [] = None
last_of (i ∷ []) = Some i
last_of (i ∷ j ∷ is) = last_of (j ∷ is)

abbrev pub number_or_none : Option ℕ → List ℕ
number_or_none None = codes "none"
number_or_none (Some n) = decimal n

-- how many items there are, how many of them match, and the last one that does
abbrev pub summary_lines : ℕ → ℕ → Option ℕ → List ℕ
summary_lines n matches last =
    codes "items " ++ decimal n ++ codes "\nmatches " ++ decimal matches ++ codes "\nlast " ++ number_or_none last ++ codes "\n"

abbrev pub summary_text : ℕ → List ℕ
summary_text n = summary_lines n (length (matching n)) (last_of (matching n))
