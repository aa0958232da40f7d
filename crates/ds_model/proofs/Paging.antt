-- Pages: where each mark has one row, the pages of a query without offset, each started at the place that the page before it gave, the last
-- one without a limit, are joined in order the whole result.
use Rattle.std.proofs.Common.{◌≡◌, ℕ, zero, suc, ◌+◌, List, [], ◌∷◌, ◌++◌, take, drop, fold, refl, ap, sym, ◌∙◌, subst, Bool, true, false}
use Rattle.std.proofs.Common.{cond}
use Rattle.std.proofs.Common.{arith, append_assoc, append-nil, Option, Some, None}
use Rattle.std.specs.Prelude.{filter, All, ⊤, ◌&&◌, ◌||◌}
use Rattle.std.specs.List.{list_any}
use Rattle.std.specs.Cmp.{IsTotalOrder, on_total}
use Rattle.std.specs.Cmp.Lexicographic.{nat_list_cmp_total, pointwise}
use Rattle.std.specs.Ordering.{on, is_gt, is_lt, is_eq, match_ordering, ordering_reverse}
use Rattle.std.specs.declared.cmp.Ordering.{Ordering}
use Rattle.std.specs.declared.cmp.Ordering.TheVariants.{Less, Equal, Greater}
use Rattle.std.proofs.lemmas.List.{take-append-drop}
use Rattle.std.proofs.lemmas.List.Elements.{All-nil, All-cons, All-head, All-tail, All-filter}
use Rattle.std.proofs.lemmas.List.Sorted.{All-permutation}
use Rattle.ds_base.specs.declared.column.Column.{Column}
use Rattle.ds_base.specs.declared.index_value.IndexValue.{IndexValue}
use Rattle.ds_base.specs.IndexOrder.{index_value_cmp}
use Rattle.ds_base.specs.IndexOrderLaws.{index_value_cmp-total}
use Rattle.ds_base.specs.KeyOrder.{bytes_cmp}
use Rattle.ds_base.specs.KeyOrderLaws.{bytes_cmp-same, key_cmp-total}
use Rattle.ds_entity.specs.Entities.{EntityParts}
use Rattle.ds_base.specs.OrderLaws.{then-Equal}
use Rattle.ds_base.specs.Sorting.{insert_by, sorted_by}
use Rattle.ds_base.specs.SortingLaws.{NoneBefore, Ascends, Ascends-sorted_by, sorted_by-filter, IsPermutation-insert_by}
use Rattle.ds_base.specs.SortingLaws.{IsPermutation-sorted_by}
use Rattle.ds_bytes.specs.Rows.{RowParts, IsRow}
use Rattle.ds_bytes.specs.RowLaws.{row_bytes-ordered, row_bytes-reads_once}
use Rattle.ds_cursor.specs.RowsOfColumns.{directions}
use Rattle.ds_base.specs.KeyColumn.{key_descends}
use Rattle.ds_query.specs.declared.branch.Branch.{Branch}
use Rattle.ds_query.specs.declared.branch.Normal.{Normal}
use Rattle.ds_query.specs.declared.branch.Window.{Window}
use Rattle.ds_query.specs.declared.row.Place.{Place}
use Rattle.ds_query.specs.Filters.{projected}
use Rattle.ds_model.specs.Results.{result, branch_results, first_of_each, same_mark, projected_values, is_after, is_up_to, is_between}
use Rattle.ds_model.specs.Results.{last_place}
use Rattle.ds_model.specs.Rows.{rows, compare_rows, place_of}
use Rattle.ds_model.proofs.LawfulRows.{IsEntityOfBytes, rows_lawful}

-- ---- what is said

-- a query of one branch, without `!=` and `in`
abbrev pub of_branch : Branch → Normal
of_branch q = record { branches = q ∷ []; merged = q.columns; several = false }

abbrev pub part_of : Option Place → Option Place → Option ℕ → Window
part_of start end limit = record { start = start; end = end; offset = 0; limit = limit }

-- pages of these lengths, each started at the place that the page before it gave, and one without a limit behind them
abbrev pub pages : Branch → List EntityParts → Option Place → Option Place → List ℕ → List RowParts
pages q entities start end [] = (result (of_branch q) (part_of start end None) entities).rows
pages q entities start end (limit ∷ limits) =
    (result (of_branch q) (part_of start end (Some limit)) entities).rows
    ++ pages q entities (result (of_branch q) (part_of start end (Some limit)) entities).next end limits

-- no row of the list has the mark of this one
abbrev pub NoneMarked : List Column → List (List ℕ) → RowParts → List RowParts → Type 0
NoneMarked columns names x [] = ⊤
NoneMarked columns names x (y ∷ ys) =
    (same_mark columns names x y ≡ false) × (same_mark columns names y x ≡ false) × NoneMarked columns names x ys

-- each mark has one row
abbrev pub MarksDiffer : List Column → List (List ℕ) → List RowParts → Type 0
MarksDiffer columns names [] = ⊤
MarksDiffer columns names (x ∷ xs) = NoneMarked columns names x xs × MarksDiffer columns names xs

-- ---- orders

own_reverse : (r : Ordering) → r ≡ ordering_reverse r → r ≡ Equal
own_reverse Less e = cc
own_reverse Equal e = refl
own_reverse Greater e = cc

same_Equal : {K : Type 0} {R : K → K → Ordering} → IsTotalOrder R → (k : K) → R k k ≡ Equal
same_Equal o k = own_reverse _ (o.antisymm k k)

less_is : (r : Ordering) → is_lt r ≡ true → r ≡ Less
less_is Less e = refl
less_is Equal e = cc
less_is Greater e = cc

not_greater : (r : Ordering) → is_gt r ≡ false → (r ≡ Equal → ⊥) → r ≡ Less
not_greater Less e differ = refl
not_greater Equal e differ = absurd (differ refl)
not_greater Greater e differ = cc

apart : {A : Type 0} → true ≡ false → A
apart e = cc

-- ---- rows in the order of their places

abbrev place_cmp : List Column → RowParts → RowParts → Ordering
place_cmp columns = on (place_of columns) bytes_cmp

place_total : (columns : List Column) → IsTotalOrder (place_cmp columns)
place_total columns = on_total (place_of columns) nat_list_cmp_total

-- every row of the list stands behind x
abbrev AllBehind : List Column → RowParts → List RowParts → Type 0
AllBehind columns x [] = ⊤
AllBehind columns x (y ∷ ys) = (bytes_cmp (place_of columns x) (place_of columns y) ≡ Less) × AllBehind columns x ys

abbrev Rises : List Column → List RowParts → Type 0
Rises columns [] = ⊤
Rises columns (x ∷ xs) = AllBehind columns x xs × Rises columns xs

module _ (columns : List Column) where
  abbrev Lawful : RowParts → Type 0
  Lawful = IsRow (directions columns)

  compares : (x y : RowParts) → Lawful x → Lawful y → compare_rows columns x y ≡ place_cmp columns x y
  compares x y p q =
      sym (then-Equal (compare_rows columns x y))
      ∙ sym ((row_bytes-ordered (directions columns) (key_descends columns)).compares x y [] [] p q)
      ∙ (λ i. bytes_cmp (append-nil (place_of columns x) i) (append-nil (place_of columns y) i))

  inserted : (ys : List RowParts) (x : RowParts) → Lawful x → All Lawful ys → insert_by (compare_rows columns) ys x ≡ insert_by (place_cmp columns) ys x
  inserted [] x p all = refl
  inserted (y ∷ ys) x p all =
      ap (λ zs. match_ordering (compare_rows columns x y) (x ∷ y ∷ ys) (x ∷ y ∷ ys) (y ∷ zs)) (inserted ys x p (All-tail Lawful y ys all))
      ∙ ap (λ r. match_ordering r (x ∷ y ∷ ys) (x ∷ y ∷ ys) (y ∷ insert_by (place_cmp columns) ys x)) (compares x y p (All-head Lawful y ys all))

  same_sort : (done xs : List RowParts) → All Lawful done → All Lawful xs → fold (insert_by (compare_rows columns)) done xs ≡ fold (insert_by (place_cmp columns)) done xs
  same_sort done [] d all = refl
  same_sort done (x ∷ xs) d all =
      let p = All-head Lawful x xs all in
      ap (λ zs. fold (insert_by (compare_rows columns)) zs xs) (inserted done x p d)
      ∙ same_sort (insert_by (place_cmp columns) done x) xs
      (All-permutation Lawful (x ∷ done) (insert_by (place_cmp columns) done x) (IsPermutation-insert_by (place_cmp columns) done x) (All-cons Lawful x done p d))
      (All-tail Lawful x xs all)

  -- ---- marks

  module _ (names : List (List ℕ)) where
    same_values : (vs : List IndexValue) → pointwise (λ v w. is_eq (index_value_cmp v w)) vs vs ≡ true
    same_values [] = refl
    same_values (v ∷ vs) = ap (λ b. b && pointwise (λ v w. is_eq (index_value_cmp v w)) vs vs) (ap is_eq (same_Equal index_value_cmp-total v)) ∙ same_values vs

    own_mark : (x : RowParts) → same_mark columns names x x ≡ true
    own_mark x =
        ap (λ b. b && pointwise (λ v w. is_eq (index_value_cmp v w)) (projected_values columns names x) (projected_values columns names x)) (ap is_eq (same_Equal key_cmp-total x.key))
        ∙ same_values (projected_values columns names x)

    NoneMarked-insert : (z : RowParts) (ys : List RowParts) (x : RowParts) → same_mark columns names z x ≡ false → same_mark columns names x z ≡ false →
        NoneMarked columns names z ys → NoneMarked columns names z (insert_by (place_cmp columns) ys x)
    NoneMarked-insert z [] x there back none = (there, back, tt)
    NoneMarked-insert z (y ∷ ys) x there back none = by (place_cmp columns x y) (NoneMarked-insert z ys x there back none.2) where
      by : (r : Ordering) → NoneMarked columns names z (insert_by (place_cmp columns) ys x) → NoneMarked columns names z (match_ordering r (x ∷ y ∷ ys) (x ∷ y ∷ ys) (y ∷ insert_by (place_cmp columns) ys x))
      by Less later = (there, back, none)
      by Equal later = (there, back, none)
      by Greater later = (none.0, none.1, later)

    MarksDiffer-insert : (ys : List RowParts) (x : RowParts) → NoneMarked columns names x ys → MarksDiffer columns names ys → MarksDiffer columns names (insert_by (place_cmp columns) ys x)
    MarksDiffer-insert [] x none differ = (tt, tt)
    MarksDiffer-insert (y ∷ ys) x none differ = by (place_cmp columns x y) (MarksDiffer-insert ys x none.2 differ.1) where
      by : (r : Ordering) → MarksDiffer columns names (insert_by (place_cmp columns) ys x) → MarksDiffer columns names (match_ordering r (x ∷ y ∷ ys) (x ∷ y ∷ ys) (y ∷ insert_by (place_cmp columns) ys x))
      by Less later = (none, differ)
      by Equal later = (none, differ)
      by Greater later = (NoneMarked-insert y ys x none.1 none.0 differ.0, later)

    -- the rows of one list have none of the marks of the other's
    abbrev Apart : List RowParts → List RowParts → Type 0
    Apart done [] = ⊤
    Apart done (x ∷ xs) = NoneMarked columns names x done × Apart done xs

    Apart-insert : (done xs : List RowParts) (x : RowParts) → NoneMarked columns names x xs → Apart done xs → Apart (insert_by (place_cmp columns) done x) xs
    Apart-insert done [] x none apart = tt
    Apart-insert done (y ∷ xs) x none apart = (NoneMarked-insert y done x none.1 none.0 apart.0, Apart-insert done xs x none.2 apart.1)

    MarksDiffer-sort : (done xs : List RowParts) → MarksDiffer columns names done → Apart done xs → MarksDiffer columns names xs → MarksDiffer columns names (fold (insert_by (place_cmp columns)) done xs)
    MarksDiffer-sort done [] before apart differ = before
    MarksDiffer-sort done (x ∷ xs) before apart differ =
        MarksDiffer-sort (insert_by (place_cmp columns) done x) xs (MarksDiffer-insert done x apart.0 before) (Apart-insert done xs x differ.0 apart.1) differ.1

    Apart-none : (xs : List RowParts) → Apart [] xs
    Apart-none [] = tt
    Apart-none (x ∷ xs) = (tt, Apart-none xs)

    NoneMarked-filter : (p : RowParts → Bool) (x : RowParts) (ys : List RowParts) → NoneMarked columns names x ys → NoneMarked columns names x (filter p ys)
    NoneMarked-filter p x [] none = tt
    NoneMarked-filter p x (y ∷ ys) none = by (p y) (NoneMarked-filter p x ys none.2) where
      by : (b : Bool) → NoneMarked columns names x (filter p ys) → NoneMarked columns names x (cond b (y ∷ filter p ys) (filter p ys))
      by true later = (none.0, none.1, later)
      by false later = later

    MarksDiffer-filter : (p : RowParts → Bool) (xs : List RowParts) → MarksDiffer columns names xs → MarksDiffer columns names (filter p xs)
    MarksDiffer-filter p [] differ = tt
    MarksDiffer-filter p (x ∷ xs) differ = by (p x) (MarksDiffer-filter p xs differ.1) where
      by : (b : Bool) → MarksDiffer columns names (filter p xs) → MarksDiffer columns names (cond b (x ∷ filter p xs) (filter p xs))
      by true later = (NoneMarked-filter p x xs differ.0, later)
      by false later = later

    -- where each mark has one row, none is left out
    none_marked : (x : RowParts) (kept : List RowParts) → NoneMarked columns names x kept → list_any (same_mark columns names x) kept ≡ false
    none_marked x [] none = refl
    none_marked x (y ∷ kept) none = ap (λ b. b || list_any (same_mark columns names x) kept) none.0 ∙ none_marked x kept none.2

    NoneMarked-push : (y : RowParts) (kept : List RowParts) (x : RowParts) → NoneMarked columns names y kept → same_mark columns names y x ≡ false → same_mark columns names x y ≡ false → NoneMarked columns names y (kept ++ x ∷ [])
    NoneMarked-push y [] x none there back = (there, back, tt)
    NoneMarked-push y (k ∷ kept) x none there back = (none.0, none.1, NoneMarked-push y kept x none.2 there back)

    Apart-push : (kept xs : List RowParts) (x : RowParts) → NoneMarked columns names x xs → Apart kept xs → Apart (kept ++ x ∷ []) xs
    Apart-push kept [] x none apart = tt
    Apart-push kept (y ∷ xs) x none apart = (NoneMarked-push y kept x apart.0 none.1 none.0, Apart-push kept xs x none.2 apart.1)

    all_first : (kept xs : List RowParts) → Apart kept xs → MarksDiffer columns names xs →
        fold (λ kept x. cond (list_any (same_mark columns names x) kept) kept (kept ++ x ∷ [])) kept xs ≡ kept ++ xs
    all_first kept [] apart differ = sym (append-nil kept)
    all_first kept (x ∷ xs) apart differ =
        ap (λ ks. fold (λ kept x. cond (list_any (same_mark columns names x) kept) kept (kept ++ x ∷ [])) ks xs)
        (ap (λ b. cond b kept (kept ++ x ∷ [])) (none_marked x kept apart.0))
        ∙ all_first (kept ++ x ∷ []) xs (Apart-push kept xs x differ.0 apart.1) differ.1
        ∙ append_assoc kept (x ∷ []) xs

    -- sorted rows of different marks stand at rising places
    behind : (x : RowParts) (ys : List RowParts) → Lawful x → All Lawful ys → NoneBefore (place_cmp columns) x ys → NoneMarked columns names x ys → AllBehind columns x ys
    behind x [] p all before none = tt
    behind x (y ∷ ys) p all before none = (not_greater _ before.0 tied, behind x ys p (All-tail Lawful y ys all) before.1 none.2) where
      tied : place_cmp columns x y ≡ Equal → ⊥
      tied e =
          let places : place_of columns x ≡ place_of columns y = bytes_cmp-same (place_of columns x) (place_of columns y) e in
          let same : x ≡ y = (row_bytes-reads_once (directions columns) (key_descends columns) x y [] [] p (All-head Lawful y ys all) (ap (λ bs. bs ++ []) places)).0 in
          apart (sym (own_mark x) ∙ ap (λ z. same_mark columns names x z) same ∙ none.0)

    rises : (xs : List RowParts) → All Lawful xs → Ascends (place_cmp columns) xs → MarksDiffer columns names xs → Rises columns xs
    rises [] all up differ = tt
    rises (x ∷ xs) all up differ =
        (behind x xs (All-head Lawful x xs all) (All-tail Lawful x xs all) up.0 differ.0, rises xs (All-tail Lawful x xs all) up.1 differ.1)

  -- ---- what stands behind a row of rising rows

  AllBehind-filter : (p : RowParts → Bool) (x : RowParts) (ys : List RowParts) → AllBehind columns x ys → AllBehind columns x (filter p ys)
  AllBehind-filter p x [] all = tt
  AllBehind-filter p x (y ∷ ys) all = by (p y) (AllBehind-filter p x ys all.1) where
    by : (b : Bool) → AllBehind columns x (filter p ys) → AllBehind columns x (cond b (y ∷ filter p ys) (filter p ys))
    by true later = (all.0, later)
    by false later = later

  after_later : (start : Option Place) (x y : RowParts) → is_after start (place_of columns x) ≡ true → bytes_cmp (place_of columns x) (place_of columns y) ≡ Less → is_after start (place_of columns y) ≡ true
  after_later None x y after less = refl
  after_later (Some s) x y after less = ap is_lt (nat_list_cmp_total.trans s.bytes (place_of columns x) (place_of columns y) (less_is _ after) less)

  abbrev at_row : RowParts → Option Place
  at_row x = Some (record { bytes = place_of columns x })

  -- of rows that all stand behind x those after x are those after an earlier start
  from_row : (start end : Option Place) (x : RowParts) (ys : List RowParts) → is_after start (place_of columns x) ≡ true → AllBehind columns x ys →
      filter (is_between columns (at_row x) end) ys ≡ filter (is_between columns start end) ys
  from_row start end x [] after all = refl
  from_row start end x (y ∷ ys) after all =
      ap (λ b. cond (b && is_up_to end (place_of columns y)) (y ∷ filter (is_between columns (at_row x) end) ys) (filter (is_between columns (at_row x) end) ys))
      (ap is_lt all.0 ∙ sym (after_later start x y after all.0))
      ∙ ap (λ zs. cond (is_between columns start end y) (y ∷ zs) zs) (from_row start end x ys after all.1)

  both_true : (a b : Bool) → (a && b) ≡ true → a ≡ true
  both_true true b e = refl
  both_true false b e = cc

  not_behind : (end : Option Place) (f x : RowParts) → bytes_cmp (place_of columns x) (place_of columns f) ≡ Less → is_between columns (at_row f) end x ≡ false
  not_behind end f x less =
      ap (λ b. b && is_up_to end (place_of columns x)) (ap is_lt (nat_list_cmp_total.antisymm (place_of columns f) (place_of columns x) ∙ ap ordering_reverse less))

  not_itself : (end : Option Place) (x : RowParts) → is_between columns (at_row x) end x ≡ false
  not_itself end x = ap (λ b. b && is_up_to end (place_of columns x)) (ap is_lt (same_Equal nat_list_cmp_total (place_of columns x)))

  first_behind : (x f : RowParts) (fs : List RowParts) → AllBehind columns x (f ∷ fs) → bytes_cmp (place_of columns x) (place_of columns f) ≡ Less
  first_behind x f fs all = all.0

  -- what a page begun at the first row of a page gives is the rest of that page
  rest_of : (start end : Option Place) (s : List RowParts) (f : RowParts) (fs : List RowParts) → Rises columns s →
      filter (is_between columns start end) s ≡ f ∷ fs → filter (is_between columns (at_row f) end) s ≡ fs
  rest_of start end [] f fs rise is = cc
  rest_of start end (x ∷ s) f fs rise is = by (rest_of start end s f fs rise.1) (is_between columns start end x) refl is where
    by : (filter (is_between columns start end) s ≡ f ∷ fs → filter (is_between columns (at_row f) end) s ≡ fs) → (b : Bool) → is_between columns start end x ≡ b → cond b (x ∷ filter (is_between columns start end) s) (filter (is_between columns start end) s) ≡ f ∷ fs →
        filter (is_between columns (at_row f) end) (x ∷ s) ≡ fs
    by later_rows true between same =
        let first : x ≡ f = cc in
        let later : filter (is_between columns start end) s ≡ fs = cc in
        subst (λ g. filter (is_between columns (at_row g) end) (x ∷ s) ≡ fs) first
        (ap (λ b. cond b (x ∷ filter (is_between columns (at_row x) end) s) (filter (is_between columns (at_row x) end) s)) (not_itself end x)
        ∙ from_row start end x s (both_true (is_after start (place_of columns x)) (is_up_to end (place_of columns x)) between) rise.0
        ∙ later)
    by later_rows false between same =
        let all : AllBehind columns x (f ∷ fs) = subst (AllBehind columns x) same (AllBehind-filter (is_between columns start end) x s rise.0) in
        ap (λ b. cond b (x ∷ filter (is_between columns (at_row f) end) s) (filter (is_between columns (at_row f) end) s)) (not_behind end f x (first_behind x f fs all))
        ∙ later_rows same

  -- what stands behind the last row of a page is what the page leaves
  left_behind : (end : Option Place) (s : List RowParts) → Rises columns s → (limit : ℕ) (start : Option Place) (found : List RowParts) →
      filter (is_between columns start end) s ≡ found → filter (is_between columns (last_place columns start (take limit found)) end) s ≡ drop limit found
  left_behind end s rise zero start found is = is
  left_behind end s rise (suc limit) start [] is = is
  left_behind end s rise (suc limit) start (f ∷ found) is = left_behind end s rise limit (at_row f) found (rest_of start end s f found rise is)

-- ---- the pages

module _ (q : Branch) (entities : List EntityParts) (of_bytes : All IsEntityOfBytes entities) (differ : MarksDiffer q.columns (projected q.select) (rows q entities)) where
  lawful : All (IsRow (directions q.columns)) (rows q entities)
  lawful = rows_lawful q entities of_bytes

  -- all rows of the branch in their order
  abbrev in_order : List RowParts
  in_order = sorted_by (place_cmp q.columns) (rows q entities)

  in_order-differ : MarksDiffer q.columns (projected q.select) in_order
  in_order-differ = MarksDiffer-sort q.columns (projected q.select) [] (rows q entities) tt (Apart-none q.columns (projected q.select) (rows q entities)) differ

  in_order-rises : Rises q.columns in_order
  in_order-rises =
      rises q.columns (projected q.select) in_order
      (All-permutation (IsRow (directions q.columns)) (rows q entities) in_order (IsPermutation-sorted_by (place_cmp q.columns) (rows q entities)) lawful)
      (Ascends-sorted_by (place_total q.columns) (rows q entities)) in_order-differ

  found : (start end : Option Place) → branch_results q start end entities ≡ filter (is_between q.columns start end) in_order
  found start end =
      let some : List RowParts = filter (is_between q.columns start end) (rows q entities) in
      ap (first_of_each (same_mark q.columns (projected q.select)))
      (same_sort q.columns [] some (All-nil (IsRow (directions q.columns))) (All-filter (is_between q.columns start end) (IsRow (directions q.columns)) (rows q entities) lawful)
      ∙ sorted_by-filter (place_total q.columns) (is_between q.columns start end) (rows q entities))
      ∙ all_first q.columns (projected q.select) [] (filter (is_between q.columns start end) in_order)
      (Apart-none q.columns (projected q.select) (filter (is_between q.columns start end) in_order))
      (MarksDiffer-filter q.columns (projected q.select) (is_between q.columns start end) in_order in_order-differ)

  page_results : (start end : Option Place) → branch_results q start end entities ++ [] ≡ filter (is_between q.columns start end) in_order
  page_results start end = append-nil (branch_results q start end entities) ∙ found start end

  all_pages : (start end : Option Place) (limits : List ℕ) → pages q entities start end limits ≡ filter (is_between q.columns start end) in_order
  all_pages start end [] = page_results start end
  all_pages start end (limit ∷ limits) =
      let whole : List RowParts = filter (is_between q.columns start end) in_order in
      let next : Option Place = (result (of_branch q) (part_of start end (Some limit)) entities).next in
      let same_limit : 0 + limit ≡ limit = omega arith in
      let last : next ≡ last_place q.columns start (take limit whole) =
      ap (λ n. last_place q.columns start (take n (branch_results q start end entities ++ []))) same_limit
      ∙ ap (λ fs. last_place q.columns start (take limit fs)) (page_results start end) in
      ap (λ fs. take limit fs ++ pages q entities next end limits) (page_results start end)
      ∙ ap (λ fs. take limit whole ++ fs)
      (all_pages next end limits
      ∙ ap (λ p. filter (is_between q.columns p end) in_order) last
      ∙ left_behind q.columns end in_order in_order-rises limit start whole refl)
      ∙ take-append-drop limit whole

  -- the pages are joined what is given without them
  pub pages_whole : (start end : Option Place) (limits : List ℕ) → pages q entities start end limits ≡ (result (of_branch q) (part_of start end None) entities).rows
  pages_whole start end limits = all_pages start end limits ∙ sym (page_results start end)
