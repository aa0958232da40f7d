-- An item put into a list by an order, and a list put in order. For a list of distinct keys std has `insert_key`, which leaves
-- an equal key as it stands, and `insert_entry`, which gives an equal key the new value.
use Rattle.std.specs.Prelude.{List, [], ◌∷◌, fold}
use Rattle.std.specs.Ordering.{match_ordering}
use Rattle.std.specs.declared.cmp.Ordering.{Ordering}

-- x in front of the first item that isn't before it
abbrev pub insert_by : {X : Type 0} → (X → X → Ordering) → List X → X → List X
insert_by cmp [] x = x ∷ []
insert_by cmp (y ∷ ys) x = match_ordering (cmp x y) (x ∷ y ∷ ys) (x ∷ y ∷ ys) (y ∷ insert_by cmp ys x)

-- the items in order: each in turn is put among those before it
abbrev pub sorted_by : {X : Type 0} → (X → X → Ordering) → List X → List X
sorted_by cmp = fold (insert_by cmp) []
