-- The lines of an index file, and what is left of a line when its comment and the blanks at its ends are cut.
use Rattle.std.specs.Prelude.{ℕ, Bool, true, ◌&&◌, ◌||◌, ◌==◌, cond, List, [], ◌∷◌}
use Rattle.std.specs.List.{slice_split}

abbrev pub is_newline : ℕ → Bool
is_newline b = b == 10

-- a space or a tab
abbrev pub is_blank : ℕ → Bool
is_blank b = (b == 32) || (b == 9)

-- a space, a tab or a carriage return
abbrev pub is_space : ℕ → Bool
is_space b = (b == 32) || (b == 9) || (b == 13)

-- of the parts between newlines the last is a line only if something stands in it
abbrev pub ended : List (List ℕ) → List (List ℕ)
ended [] = []
ended ([] ∷ []) = []
ended ((b ∷ bs) ∷ []) = (b ∷ bs) ∷ []
ended (line ∷ next ∷ more) = line ∷ ended (next ∷ more)

-- the lines of a text, each of which ends at a newline or at the end
abbrev pub lines_of : List ℕ → List (List ℕ)
lines_of text = ended (slice_split is_newline text)

-- what stands before the first `#` that follows a space or a tab; the first character counts as following one where the flag is true
abbrev pub before_comment : Bool → List ℕ → List ℕ
before_comment fresh [] = []
before_comment fresh (b ∷ bs) = cond (fresh && (b == 35)) [] (b ∷ before_comment (is_blank b) bs)

-- the text without those at its front
abbrev pub without_front : (ℕ → Bool) → List ℕ → List ℕ
without_front p [] = []
without_front p (b ∷ bs) = cond (p b) (without_front p bs) (b ∷ bs)

-- an item before a list, which is dropped where nothing follows and it passes
abbrev pub kept_before : {A : Type 0} → (A → Bool) → A → List A → List A
kept_before {A = A} p b [] = cond (p b) [] (b ∷ [])
kept_before {A = A} p b (next ∷ more) = b ∷ next ∷ more

-- the list without those at its end
abbrev pub without_end : {A : Type 0} → (A → Bool) → List A → List A
without_end {A = A} p [] = []
without_end {A = A} p (b ∷ bs) = kept_before p b (without_end p bs)

-- a line without its comment and without spaces, tabs and carriage returns at both ends
abbrev pub cut : List ℕ → List ℕ
cut line = without_end is_space (without_front is_space (before_comment true line))
