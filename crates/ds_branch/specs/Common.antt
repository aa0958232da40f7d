-- The strings that scans have in common, as rows.
use Rattle.std.specs.Prelude.{ℕ, List, All, Option, IsTrue, map, Contains}
use Rattle.std.specs.List.Sorted.{IsSorted}
use Rattle.ds_base.specs.declared.column.Column.{Column}
use Rattle.ds_base.specs.KeyOrder.{bytes_cmp}
use Rattle.ds_bytes.specs.Rows.{RowParts, IsRow}
use Rattle.ds_cursor.specs.RowsOfColumns.{directions}
use Rattle.ds_zigzag.specs.Spans.{is_above}
use Rattle.ds_zigzag.specs.CommonStrings.{IsCommon}
use Rattle.ds_model.specs.Rows.{place_of}

-- the place is common to the lists and above `after`
pub record IsCommonAfter (columns : List Column) (after : Option (List ℕ)) (lists : List (List (List ℕ))) (r : RowParts) : Type 0 where
  pub row : IsRow (directions columns) r
  pub common : IsCommon lists (place_of columns r)
  pub above : IsTrue (is_above after (place_of columns r))

-- The rows, in order, are those whose places are the strings that the lists have in common above `after`.
pub record AreCommonRows (columns : List Column) (after : Option (List ℕ)) (lists : List (List (List ℕ))) (sorted : List RowParts) : Type
    0 where
  pub ascend : IsSorted bytes_cmp (map (place_of columns) sorted)
  pub common : All (IsCommonAfter columns after lists) sorted
  pub whole : (x : List ℕ) → IsCommon lists x → IsTrue (is_above after x) → Contains (map (place_of columns) sorted) x
