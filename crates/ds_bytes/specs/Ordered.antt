-- What it means that things are written as bytes in their order.
use Rattle.std.specs.Prelude.{◌≡◌, ℕ, Bool, true, false, List, ◌++◌}
use Rattle.std.specs.declared.cmp.Ordering.{Ordering}
use Rattle.std.specs.Ordering.{ordering_then, ordering_reverse}
use Rattle.ds_base.specs.KeyOrder.{bytes_cmp}

-- Two written things compare as the things do, and where these are equal, as what follows them. So their bytes have the
-- order of the things; and where only equal things tie, nothing that is written begins what is written of another thing.
pub record IsOrderedBy {A : Type 0} (cmp : A → A → Ordering) (Lawful : A → Type 0) (written : A → List ℕ) : Type 0 where
  pub compares : (x y : A) (a b : List ℕ) → Lawful x → Lawful y
      → bytes_cmp (written x ++ a) (written y ++ b) ≡ ordering_then (cmp x y) (bytes_cmp a b)

-- an order, or the other way round
abbrev pub directed_cmp : {A : Type 0} → Bool → (A → A → Ordering) → A → A → Ordering
directed_cmp false cmp x y = cmp x y
directed_cmp true cmp x y = ordering_reverse (cmp x y)
