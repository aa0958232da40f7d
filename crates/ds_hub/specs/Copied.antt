-- What contracts see of the two copies.
use Rattle.std.specs.Prelude.{ℕ, List}

-- the writer's seat and what it knows, the copy that is shown, and what it lacks
pub record Copied (L X V : Type 0) : Type 0 where
  pub seat : ℕ
  pub knows : V
  pub shown : X
  pub log : List L
