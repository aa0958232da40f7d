-- A set of the names of columns, so that the columns of an entry aren't compared each with each.
use Rattle.std.specs.Prelude.{◌≡◌, ℕ, Bool, List, bytes_eq}
use Rattle.std.specs.List.{list_any}
use Rattle.ds_base.specs.declared.column.Column.{Column}
use Rattle.ds_base.specs.KeyColumn.{key_name}

abbrev pub has_name : List (List ℕ) → List ℕ → Bool
has_name names name = list_any (bytes_eq name) names

abbrev pub have : List Column → List ℕ → Bool
have columns name = list_any (λ c. bytes_eq name c.name) columns

-- these are the names of the columns, and the flag says whether `__key__` is one
pub record AreNamesOf (columns : List Column) (names : List (List ℕ)) (key : Bool) : Type 0 where
  pub same : (name : List ℕ) → has_name names name ≡ have columns name
  pub flag : key ≡ have columns key_name
