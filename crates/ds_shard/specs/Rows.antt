-- The rows of versions of entities, as a table holds them.
use Rattle.std.specs.Prelude.{ℕ, List, Option, Some, None, map, flat_map, fold}
use Rattle.ds_indexdef.specs.declared.IndexDef.{IndexDef}
use Rattle.ds_rows.specs.Rows.{rows_of}
use Rattle.ds_rows.specs.Versions.{Version}
use Rattle.ds_table.specs.Versions as table

-- the end of a version in a table, where one that isn't ended has an end that no stamp reaches
abbrev pub end_in_table : Option ℕ → ℕ
end_in_table None = table.never
end_in_table (Some until) = until

-- a row with the stamps of a version
abbrev pub row_of : Version → List ℕ → table.RowVersion
row_of v row = record { row = row; from = v.from; to = end_in_table v.until }

-- all rows of a version
abbrev pub rows_of_version : List IndexDef → Version → List table.RowVersion
rows_of_version defs v = map (row_of v) (rows_of defs v.entity)

-- all rows of all versions
abbrev pub rows_of_versions : List IndexDef → List Version → List table.RowVersion
rows_of_versions defs = flat_map (rows_of_version defs)

-- a table after these rows were closed at the stamp, one after another, or added
abbrev pub all_closed : ℕ → List table.RowVersion → List (List ℕ) → List table.RowVersion
all_closed stamp = fold (λ vs row. table.closed row stamp vs)

abbrev pub all_added : ℕ → List table.RowVersion → List (List ℕ) → List table.RowVersion
all_added stamp = fold (λ vs row. table.added row stamp vs)
