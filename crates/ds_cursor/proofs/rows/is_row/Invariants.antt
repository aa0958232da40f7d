-- The bytes are a row exactly where what is left is a row of the columns that are left.
use Rattle.std.proofs.Common.{drop}
use Rattle.std.specs.Prelude.{◌↔◌}
use Rattle.ds_cursor.specs.RowsOfColumns.{IsRowIn, directions}
use Rattle.ds_cursor.proofs.rows.is_row.Given as goal

abbrev pub invariant-loop-column : goal.invariant-loop-column
invariant-loop-column l = IsRowIn (directions l.columns) l.descending l.bytes ↔ IsRowIn (directions (drop l.column-index l.columns)) l.descending l.rest
