-- A page of rows with their places is the page of the rows.
use Rattle.std.proofs.Common.{◌≡◌, ℕ, List, map, drop, refl, ap, ◌∙◌, Option, Some, None, Result, Ok, Err}
use Rattle.std.specs.Prelude.{All, IfOk}
use Rattle.std.specs.List.{take-map}
use Rattle.std.specs.List.Sorted.{IsSorted, IsPermutation}
use Rattle.std.proofs.lemmas.List.{drop-take, drop-map}
use Rattle.std.proofs.lemmas.List.Folds.{fold-map}
use Rattle.ds_base.specs.declared.column.Column.{Column}
use Rattle.ds_base.specs.Sorting.{sorted_by}
use Rattle.ds_bytes.specs.Rows.{RowParts}
use Rattle.ds_pages.specs.Places.{compare_rows}
use Rattle.ds_query.specs.declared.branch.Window.{Window}
use Rattle.ds_query.specs.declared.row.Place.{Place}
use Rattle.ds_query.specs.declared.row.Row.{Row}
use Rattle.ds_pages.specs.Pages.{at_most, plus_limit, first_of_each, first_rows, same_mark}
use Rattle.ds_pages.specs.declared.row_page.RowPage.{RowPage}
use Rattle.ds_pages.specs.Marks.{is_same}
use Rattle.ds_pages.specs.Places.{IsPlaced, parts_of, place_cmp, placed}
use Rattle.ds_pages.specs.Pages.{last_of, page_of, page_of_rows, with_places}
use Rattle.ds_pages.specs.Slots.{slot_of}
use Rattle.ds_pages.proofs.FirstLaws.{first_of_each-map}
use Rattle.ds_pages.proofs.MarkLaws.{is_same-placed}
use Rattle.ds_pages.proofs.PlaceOrder.{sorted_rows}

-- to skip of those that are skipped or taken is to take of those that aren't skipped
pub drop-seen : {A : Type 0} (offset : ℕ) (limit : Option ℕ) (xs : List A)
    → drop offset (at_most (plus_limit offset limit) xs) ≡ at_most limit (drop offset xs)
drop-seen offset None xs = refl
drop-seen offset (Some limit) xs = drop-take offset limit xs

at_most-map : {A B : Type 0} (f : A → B) (most : Option ℕ) (xs : List A) → at_most most (map f xs) ≡ map f (at_most most xs)
at_most-map f None xs = refl
at_most-map f (Some most) xs = take-map f most xs

-- the page of rows that have their places is that of the rows
pub page_taken : (columns : List Column) (w : Window) (firsts : List RowParts) (kept : List Row) (m : RowPage)
    → kept ≡ map (placed columns) firsts → m.rows ≡ at_most w.limit (drop w.offset kept)
    → m.next ≡ last_of w.start (at_most (plus_limit w.offset w.limit) kept)
    → m ≡ with_places columns (page_of columns w firsts)
page_taken columns w firsts kept m are some next =
    let given : m.rows ≡ map (placed columns) (at_most w.limit (drop w.offset firsts)) =
    some ∙ ap (λ ks. at_most w.limit (drop w.offset ks)) are ∙ ap (at_most w.limit) (drop-map (placed columns) w.offset firsts)
    ∙ at_most-map (placed columns) w.limit (drop w.offset firsts) in
    let last : m.next ≡ (page_of columns w firsts).next =
    next ∙ ap (λ ks. last_of w.start (at_most (plus_limit w.offset w.limit) ks)) are
    ∙ ap (last_of w.start) (at_most-map (placed columns) (plus_limit w.offset w.limit) firsts)
    ∙ fold-map (λ (place : Option Place) (row : Row). Some row.place) (placed columns) w.start
    (at_most (plus_limit w.offset w.limit) firsts) in
    λ i. record { rows = given i; next = last i }

pub page_is : (columns : List Column) (names : List (List ℕ)) (w : Window) (slots : List (Option ℕ)) (rows sorted kept : List Row)
    (m : RowPage)
    → All (IsPlaced columns) rows → slots ≡ map (slot_of columns) names → IsSorted place_cmp sorted → IsPermutation rows sorted
    → kept ≡ first_of_each (is_same slots) sorted → m.rows ≡ at_most w.limit (drop w.offset kept)
    → m.next ≡ last_of w.start (at_most (plus_limit w.offset w.limit) kept)
    → m ≡ page_of_rows columns names w (map parts_of rows)
page_is columns names w slots rows sorted kept m p where_they_stand up moved first some next =
    let firsts : List RowParts = first_rows columns names (map parts_of rows) in
    let are : kept ≡ map (placed columns) firsts =
    first
    ∙ (λ i. first_of_each (is_same (where_they_stand i)) (sorted_rows columns rows sorted p up moved i))
    ∙ first_of_each-map (placed columns) (is_same (map (slot_of columns) names)) (same_mark columns names) (is_same-placed columns names)
    (sorted_by (compare_rows columns) (map parts_of rows)) in
    page_taken columns w firsts kept m are some next

-- two facts about a page that there is give a third one
pub given_both : {A E : Type 0} {P Q R : A → Type 0} (r : Result A E) → IfOk r P → IfOk r Q → ((a : A) → P a → Q a → R a) → IfOk r R
given_both (Ok a) p q f = f a p q
given_both (Err e) p q f = tt
