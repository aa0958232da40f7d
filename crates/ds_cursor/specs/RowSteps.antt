-- How a row is read from its front.
use Rattle.std.specs.Prelude.{◌↔◌, ℕ, Bool, List, ◌∷◌}
use Rattle.ds_cursor.specs.RowsOfColumns.{IsRowIn}

-- No value in this direction stands at the front: the bytes are no row whose first column has it.
abbrev pub NoneStands : Bool → List ℕ → Type 0
NoneStands direction bytes = (later : List Bool) (descending_key : Bool) → IsRowIn (direction ∷ later) descending_key bytes → ⊥

-- This is behind the value at the front: the bytes are a row exactly where it is a row of the later columns.
abbrev pub Behind : Bool → List ℕ → List ℕ → Type 0
Behind direction bytes behind = (later : List Bool) (descending_key : Bool)
    → IsRowIn (direction ∷ later) descending_key bytes ↔ IsRowIn later descending_key behind
