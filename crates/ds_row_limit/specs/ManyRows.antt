-- Commits that have a put with too many index rows.
use Rattle.std.specs.Prelude.{◌≡◌, ℕ, List, [], ◌∷◌, Option, Some, None, Result, Ok, Err, All, cond, min, nat_lt, ⊤}
use Rattle.std.specs.Option.{option_or}
use Rattle.ds_base.specs.Limits.{greatest_told, most_index_rows}
use Rattle.ds_indexdef.specs.declared.IndexDef.{IndexDef}
use Rattle.ds_log.specs.declared.Commit.{Commit}
use Rattle.ds_log.specs.declared.Write.{Write}
use Rattle.ds_log.specs.declared.Write.TheVariants.{Put, Delete}
use Rattle.ds_rows.specs.Counts.{row_count}
use Rattle.ds_rows.specs.declared.refused.RowsRefused.{RowsRefused}
use Rattle.ds_rows.specs.declared.refused.RowsRefused.TheVariants.{TooManyRows, NoMemory}

-- the number of rows that is told of a put with more than 20,000: theirs, or 2^63 - 1 where that is less
abbrev pub rows_told : ℕ → Option ℕ
rows_told rows = cond (nat_lt most_index_rows rows) (Some (min rows greatest_told)) None

-- that of a write under these definitions, where it is such a put
abbrev pub too_many_in : List IndexDef → Write → Option ℕ
too_many_in definitions (Put entity) = rows_told (row_count definitions entity)
too_many_in definitions (Delete key) = None

-- that of the first of these writes that is such a put
abbrev pub first_too_many : List IndexDef → List Write → Option ℕ
first_too_many definitions [] = None
first_too_many definitions (write ∷ writes) = option_or (too_many_in definitions write) (first_too_many definitions writes)

-- commits of which none has a put with too many
abbrev pub HaveFewRows : List IndexDef → List Commit → Type 0
HaveFewRows definitions = All (λ c. first_too_many definitions c.writes ≡ None)

-- what is told where this is what there is to tell, or there was no memory
abbrev pub IsChecked : Option ℕ → Result (Unit {0}) RowsRefused → Type 0
IsChecked told (Ok done) = told ≡ None
IsChecked told (Err (TooManyRows count)) = told ≡ Some count
IsChecked told (Err NoMemory) = ⊤
