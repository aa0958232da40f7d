-- Where rows stand among bytes.
use Rattle.std.specs.Prelude.{ℕ, ◌≤◌, List, length, map, slice_range}
use Rattle.ds_rows.specs.declared.row_set.Span.{Span}

-- the bytes from one place up to another
abbrev pub piece : List ℕ → Span → List ℕ
piece bytes s = slice_range bytes s.from s.to

abbrev pub pieces : List ℕ → List Span → List (List ℕ)
pieces bytes = map (piece bytes)

pub record IsWithin (bytes : List ℕ) (s : Span) : Type 0 where
  pub rises : s.from ≤ s.to
  pub ends : s.to ≤ length bytes

-- rows that are whole, and the beginning of one more
pub record Written : Type 0 where
  pub rows : List (List ℕ)
  pub begun : List ℕ
