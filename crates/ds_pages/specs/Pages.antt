-- Of rows in their order the first of each result, and the page of them that a window gives.
use Rattle.std.specs.Prelude.{ℕ, ◌+◌, Bool, true, not, ◌&&◌, List, [], ◌∷◌, ◌++◌, map, flat_map, fold, take, drop}
use Rattle.std.specs.Prelude.{Option, Some, None, cond}
use Rattle.std.specs.List.{list_any}
use Rattle.std.specs.Cmp.Lexicographic.{pointwise}
use Rattle.std.specs.Ordering.{is_lt, is_eq}
use Rattle.ds_base.specs.declared.column.Column.{Column}
use Rattle.ds_base.specs.KeyOrder.{bytes_cmp, same_key}
use Rattle.ds_base.specs.IndexOrder.{index_value_cmp}
use Rattle.ds_base.specs.Sorting.{sorted_by}
use Rattle.ds_bytes.specs.Rows.{RowParts}
use Rattle.ds_query.specs.declared.branch.Window.{Window}
use Rattle.ds_query.specs.declared.row.Place.{Place}
use Rattle.ds_query.specs.declared.row.Row.{Row}
use Rattle.ds_pages.specs.Columns.{projected_values}
use Rattle.ds_pages.specs.Places.{compare_rows, place_of, placed}
use Rattle.ds_pages.specs.declared.row_page.RowPage.{RowPage}

-- ---- first occurrence

-- of items that are the same the first alone
abbrev pub first_of_each : {A : Type 0} → (A → A → Bool) → List A → List A
first_of_each same = fold (λ kept x. cond (list_any (same x) kept) kept (kept ++ x ∷ [])) []

-- what makes two rows one result: the key, and in a projection the projected values too
abbrev pub same_mark : List Column → List (List ℕ) → RowParts → RowParts → Bool
same_mark columns names x y =
    same_key x.key y.key
    && pointwise (λ v w. is_eq (index_value_cmp v w)) (projected_values columns names x) (projected_values columns names y)

-- The rows in their order, and of each mark the first. Rows that tie are equal in all columns and in their key, so it tells nothing
-- which of them comes first.
abbrev pub first_rows : List Column → List (List ℕ) → List RowParts → List RowParts
first_rows columns names found = first_of_each (same_mark columns names) (sorted_by (compare_rows columns) found)

-- ---- windows

-- rows at or before the start are left out
abbrev pub is_after : Option Place → List ℕ → Bool
is_after None place = true
is_after (Some start) place = is_lt (bytes_cmp start.bytes place)

-- rows after the end are left out
abbrev pub is_up_to : Option Place → List ℕ → Bool
is_up_to None place = true
is_up_to (Some end) place = not (is_lt (bytes_cmp end.bytes place))

abbrev pub is_between : List Column → Option Place → Option Place → RowParts → Bool
is_between columns start end row = is_after start (place_of columns row) && is_up_to end (place_of columns row)

-- at most so many items; all where there is no limit
abbrev pub at_most : {A : Type 0} → Option ℕ → List A → List A
at_most None xs = xs
at_most (Some limit) xs = take limit xs

-- so many and so many more
abbrev pub plus_limit : ℕ → Option ℕ → Option ℕ
plus_limit offset None = None
plus_limit offset (Some limit) = Some (offset + limit)

-- what a window gives: rows, and the place where the next window begins
pub record Page : Type 0 where
  pub rows : List RowParts
  pub next : Option Place

-- the place of the last row, or else this place
abbrev pub last_place : List Column → Option Place → List RowParts → Option Place
last_place columns start = fold (λ place row. Some (record { bytes = place_of columns row })) start

-- of the rows that are left after the first occurrence the first `offset` are skipped, and `limit` are taken; the next place is
-- that of the last row skipped or taken, else the start
abbrev pub page_of : List Column → Window → List RowParts → Page
page_of columns w firsts = record {
  rows = at_most w.limit (drop w.offset firsts);
  next = last_place columns w.start (at_most (plus_limit w.offset w.limit) firsts);
}

-- ---- rows with their places

-- the place of the last row, or else this place
abbrev pub last_of : Option Place → List Row → Option Place
last_of start = fold (λ place row. Some row.place) start

-- a page whose rows have their places
abbrev pub with_places : List Column → Page → RowPage
with_places columns page = record { rows = map (placed columns) page.rows; next = page.next }

-- the rows of all lists, one list after another
abbrev pub all_rows : List (List Row) → List Row
all_rows = flat_map (λ rows. rows)

-- the page of a list of rows: in their order the first row of each mark, skipped and taken by the window
abbrev pub page_of_rows : List Column → List (List ℕ) → Window → List RowParts → RowPage
page_of_rows columns names w found = with_places columns (page_of columns w (first_rows columns names found))
