-- Tables at one stamp.
use Rattle.std.specs.Prelude.{ℕ, List, [], ◌∷◌, bytes_eq, cond}
use Rattle.ds_base.specs.KeyOrder.{bytes_cmp}
use Rattle.ds_base.specs.Sorting.{sorted_by}
use Rattle.ds_indexdef.specs.declared.IndexDef.{IndexDef}
use Rattle.ds_rows.specs.Versions.{Version, seen_rows, unseen_rows}

-- tables, and a stamp
pub record Stamped (T : Type 0) : Type 0 where
  pub tables : T
  pub stamp : ℕ

-- a row in front of others, unless the first of them is the same
abbrev pub in_front : List ℕ → List (List ℕ) → List (List ℕ)
in_front row [] = row ∷ []
in_front row (first ∷ others) = cond (bytes_eq row first) (first ∷ others) (row ∷ first ∷ others)

-- rows of which the same ones stand together, each once
abbrev pub each_once : List (List ℕ) → List (List ℕ)
each_once [] = []
each_once (row ∷ others) = in_front row (each_once others)

-- the rows that are seen at the stamp, ascending, each once
abbrev pub rows_at : List IndexDef → ℕ → List Version → List (List ℕ)
rows_at defs stamp versions = each_once (sorted_by bytes_cmp (seen_rows defs stamp versions))

-- the rows of the versions that aren't, ascending, one for each version
abbrev pub rows_not_at : List IndexDef → ℕ → List Version → List (List ℕ)
rows_not_at defs stamp versions = sorted_by bytes_cmp (unseen_rows defs stamp versions)
