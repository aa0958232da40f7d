-- Whatever row it is, what is left of it stands there.
use Rattle.ds_cursor.specs.RowsOfColumns.{IsRowOf}
use Rattle.ds_base.specs.KeyColumn.{key_descends}
use Rattle.ds_branch.proofs.Readings.{IsLeft}
use Rattle.ds_branch.proofs.reading.key_bytes.Given as goal

abbrev pub invariant-loop-column : goal.invariant-loop-column
invariant-loop-column l =
    (r : IsRowOf l.columns l.place) → IsLeft l.columns l.column-index (key_descends l.columns) l.values.items l.rest r.row
