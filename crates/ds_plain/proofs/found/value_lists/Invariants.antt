-- The lists so far and those of the columns that are left are all.
use Rattle.std.proofs.Common.{◌≡◌, ◌++◌, drop, map}
use Rattle.ds_query.specs.RowValues.{value_columns}
use Rattle.ds_rows.specs.IndexedValues.{indexed_values}
use Rattle.ds_plain.proofs.found.value_lists.Given as goal

abbrev pub invariant-loop-column : goal.invariant-loop-column
invariant-loop-column l =
    l.lists.items ++ map (λ c. indexed_values l.entity c.name) (value_columns (drop l.column-index l.columns))
    ≡ map (λ c. indexed_values l.entity c.name) (value_columns l.columns)
