-- The places of rows, each of which can be read back.
use Rattle.std.proofs.Common.{◌≡◌, ℕ, ◌+◌, ◌<◌, ◌≤◌, List, [], ◌∷◌, ◌++◌, drop, get_or, length, map, refl, sym, ap, subst, take, ◌∙◌}
use Rattle.std.proofs.Common.{Option, Some, None, arith}
use Rattle.std.specs.Prelude.{All, flat_map}
use Rattle.std.proofs.lemmas.List.{drop-map, flat_map_more, get_or-map, length-map, map-append, take-map, take_all, take_more}
use Rattle.std.proofs.lemmas.List.Folds.{fold-map}
use Rattle.std.proofs.lemmas.List.Sorted.{All-permutation}
use Rattle.std.proofs.lemmas.List.Elements.{All-cons, All-drop, All-head, All-nil, All-tail, All-take}
use Rattle.ds_base.specs.declared.column.Column.{Column}
use Rattle.ds_bytes.specs.Rows.{RowParts, IsRow}
use Rattle.ds_cursor.specs.RowsOfColumns.{IsRowOf}
use Rattle.ds_base.specs.KeyOrder.{bytes_cmp}
use Rattle.ds_base.specs.Sorting.{sorted_by}
use Rattle.ds_base.specs.SortingLaws.{IsPermutation-sorted_by}
use Rattle.ds_query.specs.declared.branch.Window.{Window}
use Rattle.ds_query.specs.declared.row.Place.{Place}
use Rattle.ds_query.specs.declared.row.Row.{Row}
use Rattle.ds_pages.specs.Columns.{directions}
use Rattle.ds_pages.specs.Pages.{at_most, plus_limit}
use Rattle.ds_pages.specs.Places.{compare_rows, place_of, placed}
use Rattle.ds_pages.specs.declared.row_page.RowPage.{RowPage}
use Rattle.ds_pages.proofs.PageLaws.{drop-seen}
use Rattle.ds_pages.proofs.PlaceOrder.{folded}
use Rattle.ds_branch.specs.Behind.{ArePlaces, IsReadable}
use Rattle.ds_engine.specs.Searches.{last_at, page_in_order}
use Rattle.ds_branch.proofs.KeptPlaces.{more_places}
use Rattle.ds_branch.proofs.Readings.{is_placed}

module _ (columns : List Column) where
  -- what stands in a place can be read back from it
  abbrev row_at : (row : RowParts) → IsReadable columns row → IsRowOf columns (place_of columns row)
  row_at row is = record { row = row; long = is.long; values = is.values; key = is.key; written = refl }

  -- so each place is a row
  pub all_rows : (rows : List RowParts) (places : List (List ℕ)) → ArePlaces columns rows places → All (IsRowOf columns) places
  all_rows rows places are = subst (All (IsRowOf columns)) (sym are.are) (each rows are.readable) where
    each : (rs : List RowParts) → All (IsReadable columns) rs → All (IsRowOf columns) (map (place_of columns) rs)
    each [] all = All-nil (IsRowOf columns)
    each (r ∷ rs) all =
        All-cons (IsRowOf columns) (place_of columns r) (map (place_of columns) rs)
        (row_at r (All-head (IsReadable columns) r rs all)) (each rs (All-tail (IsReadable columns) r rs all))

  -- a row is lawful that can be read back
  pub lawful_rows : (rows : List RowParts) → All (IsReadable columns) rows → All (IsRow (directions columns)) rows
  lawful_rows [] all = All-nil (IsRow (directions columns))
  lawful_rows (r ∷ rs) all =
      All-cons (IsRow (directions columns)) r rs
      (is_placed columns (place_of columns r) (row_at r (All-head (IsReadable columns) r rs all))).lawful
      (lawful_rows rs (All-tail (IsReadable columns) r rs all))

  -- ---- item after item

  -- the places of one shard more
  pub shards_more : {A : Type 0} (F : A → List RowParts) (xs : List A) (i : ℕ) (x : A) (places put after : List (List ℕ))
      → i < length xs → x ≡ get_or xs i x → ArePlaces columns (flat_map F (take i xs)) places → ArePlaces columns (F x) put
      → after ≡ places ++ put → ArePlaces columns (flat_map F (take (i + 1) xs)) after
  shards_more F xs i x places put after below is so_far this all =
      let one : flat_map F (take i xs) ++ F x ≡ flat_map F (take (i + 1) xs) =
      ap (λ y. flat_map F (take i xs) ++ F y) is ∙ flat_map_more F [] (take i xs) (get_or xs i x)
      ∙ ap (flat_map F) (sym (take_more xs i x below)) in
      subst (λ ps. ArePlaces columns (flat_map F (take (i + 1) xs)) ps) (sym all)
      (subst (λ rs. ArePlaces columns rs (places ++ put)) one (more_places columns (flat_map F (take i xs)) (F x) places put so_far this))

  -- the row that stands in a place
  abbrev pub nth_row : (rows : List RowParts) (places : List (List ℕ)) (i : ℕ) (place e : List ℕ) (d : RowParts)
      → ArePlaces columns rows places → i < length places → place ≡ get_or places i e → IsRowOf columns place
  nth_row rows places i place e d are below is =
      let long = length-map rows (place_of columns) in
      let many = ap length are.are in
      let here : i < length rows = omega (arith, long, many, below) in
      let one = are.readable i d here in
      record {
        row = get_or rows i d;
        long = one.long;
        values = one.values;
        key = one.key;
        written = is ∙ ap (λ ps. get_or ps i e) are.are ∙ get_or-map (place_of columns) rows i d e here;
      }

  -- one row more is read
  pub read_more : (rows : List RowParts) (places : List (List ℕ)) (i : ℕ) (d : RowParts) (found after : List Row) (row : Row)
      → ArePlaces columns rows places → i < length places → found ≡ map (placed columns) (take i rows)
      → row ≡ placed columns (get_or rows i d) → after ≡ found ++ row ∷ [] → after ≡ map (placed columns) (take (i + 1) rows)
  read_more rows places i d found after row are below so_far this put =
      let long = length-map rows (place_of columns) in
      let many = ap length are.are in
      put ∙ (λ j. so_far j ++ this j ∷ []) ∙ sym (map-append (placed columns) (take i rows) (get_or rows i d ∷ []))
      ∙ ap (map (placed columns)) (sym (take_more rows i d (omega (arith, long, many, below))))

  -- until all are
  pub read_all : (rows : List RowParts) (places : List (List ℕ)) (i : ℕ) (found : List Row) → ArePlaces columns rows places
      → length places ≤ i → found ≡ map (placed columns) (take i rows) → found ≡ map (placed columns) rows
  read_all rows places i found are past all =
      let long = length-map rows (place_of columns) in
      let many = ap length are.are in
      all ∙ ap (map (placed columns)) (take_all i rows (omega (arith, long, many, past)))

  -- ---- the page

  at_most-map : {A B : Type 0} (f : A → B) (most : Option ℕ) (xs : List A) → at_most most (map f xs) ≡ map f (at_most most xs)
  at_most-map f None xs = refl
  at_most-map f (Some most) xs = take-map f most xs

  all_at_most : {A : Type 0} (P : A → Type 0) (most : Option ℕ) (xs : List A) → All P xs → All P (at_most most xs)
  all_at_most P None xs all = all
  all_at_most P (Some most) xs all = All-take P most xs all

  -- what holds of places holds of those of a page
  pub all_seen : (P : List ℕ → Type 0) (most : Option ℕ) (skip : ℕ) (places : List (List ℕ)) → All P places
      → All P (drop skip (at_most most (sorted_by bytes_cmp places)))
  all_seen P most skip places all =
      All-drop P skip (at_most most (sorted_by bytes_cmp places))
      (all_at_most P most (sorted_by bytes_cmp places)
      (All-permutation P places (sorted_by bytes_cmp places) (IsPermutation-sorted_by bytes_cmp places) all))

  -- what is read of the places of a page is the page
  pub page_read : (w : Window) (rows : List RowParts) (places seen behind : List (List ℕ)) (found : List Row) (m : RowPage)
      → ArePlaces columns rows places → seen ≡ at_most (plus_limit w.offset w.limit) (sorted_by bytes_cmp places)
      → behind ≡ drop w.offset seen → ((rs : List RowParts) → ArePlaces columns rs behind → found ≡ map (placed columns) rs)
      → m.rows ≡ found → m.next ≡ last_at w.start seen → m ≡ page_in_order columns w rows
  page_read w rows places seen behind found m are sees cut read some next =
      let sorted : List RowParts = sorted_by (compare_rows columns) rows in
      let all : List RowParts = at_most (plus_limit w.offset w.limit) sorted in
      let taken : List RowParts = at_most w.limit (drop w.offset sorted) in
      let in_order : sorted_by bytes_cmp places ≡ map (place_of columns) sorted =
      ap (sorted_by bytes_cmp) are.are
      ∙ sym (folded columns [] rows (All-nil (IsRow (directions columns))) (lawful_rows rows are.readable)) in
      let seen_are : seen ≡ map (place_of columns) all =
      sees ∙ ap (at_most (plus_limit w.offset w.limit)) in_order ∙ at_most-map (place_of columns) (plus_limit w.offset w.limit) sorted in
      let own : ArePlaces columns taken behind = record {
        are = cut ∙ ap (drop w.offset) seen_are ∙ drop-map (place_of columns) w.offset all
            ∙ ap (map (place_of columns)) (drop-seen w.offset w.limit sorted);
        readable = all_at_most (IsReadable columns) w.limit (drop w.offset sorted)
            (All-drop (IsReadable columns) w.offset sorted
            (All-permutation (IsReadable columns) rows sorted (IsPermutation-sorted_by (compare_rows columns) rows) are.readable));
      } in
      let given : m.rows ≡ map (placed columns) taken = some ∙ read taken own in
      let last : m.next ≡ (page_in_order columns w rows).next =
      next ∙ ap (last_at w.start) seen_are
      ∙ fold-map (λ (start : Option Place) (place : List ℕ). Some (record { bytes = place })) (place_of columns) w.start all in
      λ i. record { rows = given i; next = last i }
