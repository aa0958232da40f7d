-- Two lists, place by place.
use Rattle.std.specs.Prelude.{List, [], ◌∷◌, ⊤}

-- this holds of each element of a list and of the one at its place in another list, which is as long
abbrev pub EachOf : {A : Type 0} → (A → A → Type 0) → List A → List A → Type 0
EachOf Holds [] [] = ⊤
EachOf Holds (x ∷ xs) (y ∷ ys) = Holds x y × EachOf Holds xs ys
EachOf Holds _ _ = ⊥
