-- No page has more rows than those of which it is made, and no more entities are looked up than rows are given.
use Rattle.std.proofs.Common.{◌≡◌, ℕ, suc, ◌+◌, ◌≤◌, Bool, true, false, cond, List, [], ◌∷◌, ◌++◌, length, drop, fold}
use Rattle.std.proofs.Common.{ap, length-append, arith, Option, Some, None}
use Rattle.std.specs.List.{list_any}
use Rattle.std.proofs.lemmas.List.{length-drop, length-map, length-take}
use Rattle.std.proofs.lemmas.List.Sorted.{length_permutation}
use Rattle.ds_base.specs.declared.column.Column.{Column}
use Rattle.ds_base.specs.Sorting.{sorted_by}
use Rattle.ds_base.specs.SortingLaws.{IsPermutation-sorted_by}
use Rattle.ds_bytes.specs.Rows.{RowParts}
use Rattle.ds_query.specs.declared.branch.Window.{Window}
use Rattle.ds_query.specs.declared.query.Select.{Select}
use Rattle.ds_query.specs.declared.query.Select.TheVariants as select
use Rattle.ds_pages.specs.Pages.{at_most, first_rows, page_of, page_of_rows, same_mark, with_places}
use Rattle.ds_pages.specs.Places.{compare_rows, placed}
use Rattle.ds_engine.specs.Searches.{look_ups, page_in_order}

drop-few : {A : Type 0} (n : ℕ) (xs : List A) → length (drop n xs) ≤ length xs
drop-few n xs = let is = length-drop n xs in omega (arith, is)

at_most-few : {A : Type 0} (most : Option ℕ) (xs : List A) → length (at_most most xs) ≤ length xs
at_most-few None xs = omega arith
at_most-few (Some n) xs = let is = length-take n xs in omega (arith, is)

module _ {A : Type 0} (same : A → A → Bool) where
  abbrev firsts : List A → List A → List A
  firsts = fold (λ kept x. cond (list_any (same x) kept) kept (kept ++ x ∷ []))

  -- of each the first are no more than all
  firsts-few : (kept xs : List A) → length (firsts kept xs) ≤ length kept + length xs
  firsts-few kept [] = omega arith
  firsts-few kept (x ∷ xs) =
      by (list_any (same x) kept) (firsts-few kept xs) (firsts-few (kept ++ x ∷ []) xs) (length-append kept (x ∷ [])) where
        by : (b : Bool) → length (firsts kept xs) ≤ length kept + length xs
            → length (firsts (kept ++ x ∷ []) xs) ≤ length (kept ++ x ∷ []) + length xs
            → length (kept ++ x ∷ []) ≡ length kept + 1
            → length (firsts (cond b kept (kept ++ x ∷ [])) xs) ≤ length kept + suc (length xs)
        by true old new more = omega (arith, old)
        by false old new more = omega (arith, new, more)

-- the page of these rows
paged-few : (columns : List Column) (w : Window) (firsts : List RowParts)
    → length (with_places columns (page_of columns w firsts)).rows ≤ length firsts
paged-few columns w firsts =
    let all = length-map (at_most w.limit (drop w.offset firsts)) (placed columns) in
    let taken = at_most-few w.limit (drop w.offset firsts) in
    let behind = drop-few w.offset firsts in
    omega (arith, all, taken, behind)

sorted-many : (columns : List Column) (rows : List RowParts) → length (sorted_by (compare_rows columns) rows) ≡ length rows
sorted-many columns rows =
    length_permutation rows (sorted_by (compare_rows columns) rows) (IsPermutation-sorted_by (compare_rows columns) rows)

pub in_order-few : (columns : List Column) (w : Window) (rows : List RowParts) → length (page_in_order columns w rows).rows ≤ length rows
in_order-few columns w rows =
    let page = paged-few columns w (sorted_by (compare_rows columns) rows) in
    let many = sorted-many columns rows in
    omega (arith, page, many)

pub page-few : (columns : List Column) (names : List (List ℕ)) (w : Window) (rows : List RowParts)
    → length (page_of_rows columns names w rows).rows ≤ length rows
page-few columns names w rows =
    let page = paged-few columns w (first_rows columns names rows) in
    let firsts = firsts-few (same_mark columns names) [] (sorted_by (compare_rows columns) rows) in
    let many = sorted-many columns rows in
    omega (arith, page, firsts, many)

-- what is cut from rows
pub cut-few : {A : Type 0} (n : ℕ) (all rows : List A) → rows ≡ drop n all → length rows ≤ length all
cut-few n all rows is = let less = drop-few n all in let many = ap length is in omega (arith, less, many)

pub look_ups-few : (selected : Select) (n : ℕ) → look_ups selected n ≤ n
look_ups-few select.Entities n = omega arith
look_ups-few select.Keys n = omega arith
look_ups-few (select.Projection names) n = omega arith
