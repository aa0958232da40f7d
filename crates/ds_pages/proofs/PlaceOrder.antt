-- Rows in the order of their places are rows in their order.
use Rattle.std.proofs.Common.{◌≡◌, ℕ, List, [], ◌∷◌, ◌++◌, map, fold, get_or, drop, refl, sym, ap, ◌∙◌, append-nil}
use Rattle.std.specs.Prelude.{All}
use Rattle.std.specs.Cmp.{on_total}
use Rattle.std.specs.Cmp.Lexicographic.{nat_list_cmp_total}
use Rattle.std.specs.List.Sorted.{IsSorted, IsPermutation}
use Rattle.std.specs.Ordering.{match_ordering}
use Rattle.std.specs.declared.cmp.Ordering.{Ordering}
use Rattle.std.specs.declared.cmp.Ordering.TheVariants.{Less, Equal, Greater}
use Rattle.std.proofs.lemmas.List.Elements.{All-nil, All-cons, All-head, All-tail}
use Rattle.std.proofs.lemmas.List.Sorted.{IsPermutation-map, All-permutation}
use Rattle.ds_base.specs.declared.column.Column.{Column}
use Rattle.ds_base.specs.KeyOrder.{bytes_cmp}
use Rattle.ds_base.specs.KeyOrderLaws.{bytes_cmp-same}
use Rattle.ds_base.specs.OrderLaws.{then-Equal}
use Rattle.ds_base.specs.Sorting.{insert_by, sorted_by}
use Rattle.ds_base.specs.SortingLaws.{NoneBefore, Ascends, Ascends-from_IsSorted, IsSorted-from_Ascends, sorted_by-only}
use Rattle.ds_base.specs.SortingLaws.{IsPermutation-insert_by, IsPermutation-sorted_by}
use Rattle.ds_bytes.specs.Rows.{RowParts, IsRow}
use Rattle.ds_bytes.specs.RowLaws.{row_bytes-ordered, row_bytes-reads_once}
use Rattle.ds_pages.specs.Columns.{directions, key_descends}
use Rattle.ds_query.specs.declared.row.Row.{Row}
use Rattle.ds_pages.specs.Places.{compare_rows, place_of}
use Rattle.ds_pages.specs.Places.{IsPlaced, parts_of, placed, place_cmp}

-- ---- the places of sorted rows are sorted

abbrev place : Row → List ℕ
place r = r.place.bytes

none_before : (x : Row) (ys : List Row) → NoneBefore place_cmp x ys → NoneBefore bytes_cmp (place x) (map place ys)
none_before x [] h = tt
none_before x (y ∷ ys) h = (h.0, none_before x ys h.1)

ascend : (xs : List Row) → Ascends place_cmp xs → Ascends bytes_cmp (map place xs)
ascend [] h = tt
ascend (x ∷ xs) h = (none_before x xs h.0, ascend xs h.1)

places_sorted : (xs : List Row) → IsSorted place_cmp xs → IsSorted bytes_cmp (map place xs)
places_sorted xs up =
    IsSorted-from_Ascends nat_list_cmp_total (map place xs)
    (ascend xs (Ascends-from_IsSorted (on_total place nat_list_cmp_total) xs up))

-- ---- rows compare as their places

module _ (columns : List Column) where
  abbrev Lawful : RowParts → Type 0
  Lawful = IsRow (directions columns)

  compares : (x y : RowParts) → Lawful x → Lawful y → compare_rows columns x y ≡ bytes_cmp (place_of columns x) (place_of columns y)
  compares x y p q =
      sym (then-Equal (compare_rows columns x y))
      ∙ sym ((row_bytes-ordered (directions columns) (key_descends columns)).compares x y [] [] p q)
      ∙ (λ i. bytes_cmp (append-nil (place_of columns x) i) (append-nil (place_of columns y) i))

  -- what stands where a row of this place is put among others
  abbrev put : Ordering → List ℕ → List ℕ → List (List ℕ) → List (List ℕ) → List (List ℕ)
  put r x y ys later = match_ordering r (x ∷ y ∷ ys) (x ∷ y ∷ ys) (y ∷ later)

  abbrev put_row : Ordering → RowParts → RowParts → List RowParts → List RowParts → List RowParts
  put_row r x y ys later = match_ordering r (x ∷ y ∷ ys) (x ∷ y ∷ ys) (y ∷ later)

  put_places : (r : Ordering) (x y : RowParts) (ys later : List RowParts) (ls : List (List ℕ)) → map (place_of columns) later ≡ ls
      → map (place_of columns) (put_row r x y ys later) ≡ put r (place_of columns x) (place_of columns y) (map (place_of columns) ys) ls
  put_places Less x y ys later ls e = refl
  put_places Equal x y ys later ls e = refl
  put_places Greater x y ys later ls e = ap (λ zs. place_of columns y ∷ zs) e

  inserted : (ys : List RowParts) (x : RowParts) → Lawful x → All Lawful ys
      → map (place_of columns) (insert_by (compare_rows columns) ys x)
      ≡ insert_by bytes_cmp (map (place_of columns) ys) (place_of columns x)
  inserted [] x p all = refl
  inserted (y ∷ ys) x p all =
      let places : List (List ℕ) = map (place_of columns) ys in
      let later : List (List ℕ) = insert_by bytes_cmp places (place_of columns x) in
      put_places (compare_rows columns x y) x y ys (insert_by (compare_rows columns) ys x) later
      (inserted ys x p (All-tail Lawful y ys all))
      ∙ ap (λ r. put r (place_of columns x) (place_of columns y) places later) (compares x y p (All-head Lawful y ys all))

  -- putting in order and taking the places can change their turn
  pub folded : (done xs : List RowParts) → All Lawful done → All Lawful xs
      → map (place_of columns) (fold (insert_by (compare_rows columns)) done xs)
      ≡ fold (insert_by bytes_cmp) (map (place_of columns) done) (map (place_of columns) xs)
  folded done [] d all = refl
  folded done (x ∷ xs) d all =
      let p = All-head Lawful x xs all in
      folded (insert_by (compare_rows columns) done x) xs
      (All-permutation Lawful (x ∷ done) (insert_by (compare_rows columns) done x)
      (IsPermutation-insert_by (compare_rows columns) done x) (All-cons Lawful x done p d))
      (All-tail Lawful x xs all)
      ∙ ap (λ zs. fold (insert_by bytes_cmp) zs (map (place_of columns) xs)) (inserted done x p d)

  -- ---- rows are told by their places

  same_row : (x y : Row) → IsPlaced columns x → IsPlaced columns y → place x ≡ place y → x ≡ y
  same_row x y p q e =
      let bytes : place_of columns (parts_of x) ≡ place_of columns (parts_of y) = sym (ap place p.place) ∙ e ∙ ap place q.place in
      p.place
      ∙ ap (placed columns)
      (row_bytes-reads_once (directions columns) (key_descends columns) (parts_of x) (parts_of y) [] [] p.lawful q.lawful
      (ap (λ b. b ++ []) bytes)).0
      ∙ sym q.place

  same_rows : (xs ys : List Row) → All (IsPlaced columns) xs → All (IsPlaced columns) ys → map place xs ≡ map place ys → xs ≡ ys
  same_rows [] [] p q e = refl
  same_rows [] (y ∷ ys) p q e = absurd (cc e)
  same_rows (x ∷ xs) [] p q e = absurd (cc e)
  same_rows (x ∷ xs) (y ∷ ys) p q e =
      let first : place x ≡ place y = ap (λ zs. get_or zs 0 []) e in
      let rest : map place xs ≡ map place ys = ap (λ zs. drop 1 zs) e in
      λ i. same_row x y (All-head (IsPlaced columns) x xs p) (All-head (IsPlaced columns) y ys q) first i
      ∷ same_rows xs ys (All-tail (IsPlaced columns) x xs p) (All-tail (IsPlaced columns) y ys q) rest i

  lawful_parts : (xs : List Row) → All (IsPlaced columns) xs → All Lawful (map parts_of xs)
  lawful_parts [] p = All-nil Lawful
  lawful_parts (x ∷ xs) p =
      All-cons Lawful (parts_of x) (map parts_of xs) (All-head (IsPlaced columns) x xs p).lawful
      (lawful_parts xs (All-tail (IsPlaced columns) x xs p))

  placed_parts : (xs : List RowParts) → All Lawful xs → All (IsPlaced columns) (map (placed columns) xs)
  placed_parts [] p = All-nil (IsPlaced columns)
  placed_parts (x ∷ xs) p =
      All-cons (IsPlaced columns) (placed columns x) (map (placed columns) xs) (record { lawful = All-head Lawful x xs p; place = refl })
      (placed_parts xs (All-tail Lawful x xs p))

  places_of_parts : (xs : List Row) → All (IsPlaced columns) xs → map place xs ≡ map (place_of columns) (map parts_of xs)
  places_of_parts [] p = refl
  places_of_parts (x ∷ xs) p =
      λ i. place ((All-head (IsPlaced columns) x xs p).place i) ∷ places_of_parts xs (All-tail (IsPlaced columns) x xs p) i

  places_placed : (xs : List RowParts) → map place (map (placed columns) xs) ≡ map (place_of columns) xs
  places_placed [] = refl
  places_placed (x ∷ xs) = ap (λ zs. place_of columns x ∷ zs) (places_placed xs)

  -- rows sorted by their places are the rows in their order
  pub sorted_rows : (rows sorted : List Row) → All (IsPlaced columns) rows → IsSorted place_cmp sorted → IsPermutation rows sorted
      → sorted ≡ map (placed columns) (sorted_by (compare_rows columns) (map parts_of rows))
  sorted_rows rows sorted p up moved =
      let parts : List RowParts = map parts_of rows in
      let lawful : All Lawful parts = lawful_parts rows p in
      let all_sorted : All Lawful (sorted_by (compare_rows columns) parts) =
      All-permutation Lawful parts (sorted_by (compare_rows columns) parts) (IsPermutation-sorted_by (compare_rows columns) parts) lawful in
      same_rows sorted (map (placed columns) (sorted_by (compare_rows columns) parts))
      (All-permutation (IsPlaced columns) rows sorted moved p)
      (placed_parts (sorted_by (compare_rows columns) parts) all_sorted)
      (sorted_by-only nat_list_cmp_total bytes_cmp-same (map place rows) (map place sorted) (places_sorted sorted up)
      (IsPermutation-map place rows sorted moved)
      ∙ ap (sorted_by bytes_cmp) (places_of_parts rows p)
      ∙ sym (folded [] parts (All-nil Lawful) lawful)
      ∙ sym (places_placed (sorted_by (compare_rows columns) parts)))
