-- What a seek of the target at one scan tells.
use Rattle.std.specs.Prelude.{◌≡◌, ℕ, List, [], ◌∷◌, ◌++◌, length, take, Option, Some, None, IsTrue, find}
use Rattle.ds_zigzag.specs.declared.target.Sought.{Sought}
use Rattle.ds_zigzag.specs.declared.target.Sought.TheVariants.{Nothing, Same, Greater}
use Rattle.ds_zigzag.specs.Spans.{is_below, is_from}

-- the first of the strings above `after`: `after` and a zero byte; without an `after` the empty string
abbrev pub first_above : Option (List ℕ) → List ℕ
first_above None = []
first_above (Some after) = after ++ 0 ∷ []

-- the string that such a first string is above: all of it but its last byte, and none where it is empty
abbrev pub string_below : List ℕ → Option (List ℕ)
string_below [] = None
string_below (b ∷ bs) = Some (take (length bs) (b ∷ bs))

-- what was sought at a scan of these strings, what the target is then, and what was found
abbrev pub IsSought : Sought → List ℕ → List ℕ → List (List ℕ) → Type 0
IsSought Nothing old new strings = find (is_from old) strings ≡ None
IsSought Same old new strings = (new ≡ old) × (find (is_from old) strings ≡ Some new)
IsSought Greater old new strings = IsTrue (is_below old new) × (find (is_from old) strings ≡ Some new)

-- the string that was found
abbrev pub sought_at : Sought → List ℕ → Option (List ℕ)
sought_at Nothing new = None
sought_at Same new = Some new
sought_at Greater new = Some new
