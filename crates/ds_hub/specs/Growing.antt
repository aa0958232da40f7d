-- What becomes of lists that are told to several readers.
use Rattle.std.specs.Prelude.{List, [], ◌∷◌}
use mathlib.Core.List.{IsPrefix}

-- as many lists as before, and each begins with the one before
abbrev pub AreLonger : {E : Type 0} → List (List E) → List (List E) → Type 0
AreLonger [] [] = Unit {0}
AreLonger (old ∷ olds) (new ∷ news) = IsPrefix old new × AreLonger olds news
AreLonger [] (new ∷ news) = ⊥
AreLonger (old ∷ olds) [] = ⊥
