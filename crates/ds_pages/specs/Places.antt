-- The order of rows, and their places: bytes whose order is that of the rows.
use Rattle.std.specs.Prelude.{◌≡◌, ℕ, List}
use Rattle.std.specs.declared.cmp.Ordering.{Ordering}
use Rattle.ds_base.specs.declared.column.Column.{Column}
use Rattle.ds_base.specs.KeyOrder.{bytes_cmp}
use Rattle.ds_bytes.specs.Rows.{RowParts, IsRow, row_bytes, row_cmp}
use Rattle.ds_query.specs.declared.row.Row.{Row}
use Rattle.ds_query.specs.declared.row.Place.{Place}
use Rattle.ds_pages.specs.Columns.{directions, key_descends}

-- rows compare column by column, each in its direction; `__key__` is a column, so different rows never tie
abbrev pub compare_rows : List Column → RowParts → RowParts → Ordering
compare_rows columns = row_cmp (directions columns) (key_descends columns)

-- the place of a row: its columns as bytes, whose order is that of the rows
abbrev pub place_of : List Column → RowParts → List ℕ
place_of columns = row_bytes (directions columns) (key_descends columns)

-- a row without its place
abbrev pub parts_of : Row → RowParts
parts_of r = record { values = r.values; key = r.key }

-- a row with its place among these columns
abbrev pub placed : List Column → RowParts → Row
placed columns r = record { key = r.key; values = r.values; place = record { bytes = place_of columns r } }

-- the row has a value for each of these columns, and its place among them
pub record IsPlaced (columns : List Column) (r : Row) : Type 0 where
  pub lawful : IsRow (directions columns) (parts_of r)
  pub place : r ≡ placed columns (parts_of r)

-- rows compare by their places, as bytes
abbrev pub place_cmp : Row → Row → Ordering
place_cmp x y = bytes_cmp x.place.bytes y.place.bytes
