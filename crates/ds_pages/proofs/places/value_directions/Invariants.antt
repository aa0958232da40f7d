-- The directions so far and those of the columns that are left are all.
use Rattle.std.proofs.Common.{◌≡◌, ◌++◌, drop}
use Rattle.ds_pages.specs.Columns.{directions}
use Rattle.ds_pages.proofs.places.value_directions.Given as goal

abbrev pub invariant-loop-column : goal.invariant-loop-column
invariant-loop-column l = l.values.items ++ directions (drop l.column-index l.columns) ≡ directions l.columns
