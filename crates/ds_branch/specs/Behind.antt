-- Rows of which the first ones aren't asked for.
use Rattle.std.specs.Prelude.{◌≡◌, ◌≤◌, ℕ, Bool, true, List, All, None, length, drop, map}
use Rattle.ds_base.specs.declared.column.Column.{Column}
use Rattle.ds_bytes.specs.Lawful.{IsLawfulKey, IsLawfulValue}
use Rattle.ds_bytes.specs.Rows.{RowParts}
use Rattle.ds_pages.specs.Columns.{directions}
use Rattle.ds_query.specs.declared.row.Row.{Row}
use Rattle.ds_pages.specs.Pages.{last_of}
use Rattle.ds_pages.specs.Places.{IsPlaced, parts_of, place_of}
use Rattle.ds_branch.specs.declared.behind.RowsBehind.{RowsBehind}

-- a row of these columns that can be read back from its place
pub record IsReadable (columns : List Column) (row : RowParts) : Type 0 where
  pub long : length row.values ≡ length (directions columns)
  pub values : All IsLawfulValue row.values
  pub key : IsLawfulKey row.key

-- the places of rows of these columns, each of which can be read back
pub record ArePlaces (columns : List Column) (rows : List RowParts) (places : List (List ℕ)) : Type 0 where
  pub are : places ≡ map (place_of columns) rows
  pub readable : All (IsReadable columns) rows

-- What is given of the rows tells those behind the first `skip`, how many all are, and the place of the last one; where places are
-- asked for, those of all.
pub record IsCollected (columns : List Column) (skip : ℕ) (asked : Bool) (all : List Row) (given : RowsBehind) : Type 0 where
  pub rows : drop given.left given.rows ≡ drop skip all
  pub left : given.left ≤ skip
  pub count : given.count ≡ length all
  pub last : given.last ≡ last_of None all
  pub placed : All (IsPlaced columns) given.rows
  pub places : asked ≡ true → ArePlaces columns (map parts_of all) given.places.items
