-- The page of a query in the order of keys is that of the entities in front, where they fill it.
use Rattle.std.proofs.Common.{◌≡◌, ℕ, zero, suc, ◌+◌, ◌≤◌, Bool, true, false, ◌&&◌, ◌||◌, not, cond, List, [], ◌∷◌, ◌++◌, length, map, fold}
use Rattle.std.proofs.Common.{take, drop, Some, refl, ap, sym, subst, ◌∙◌, arith, append_assoc, append-nil}
use Rattle.std.specs.Prelude.{All, filter, flat_map}
use Rattle.std.specs.Cmp.{IsTotalOrder, on_total}
use Rattle.std.specs.List.{AllByRecursion, list_any}
use Rattle.std.specs.List.Sorted.{IsSorted}
use Rattle.std.specs.Ordering.{is_gt, match_ordering}
use Rattle.std.specs.declared.cmp.Ordering.{Ordering}
use Rattle.std.specs.declared.cmp.Ordering.TheVariants.{Less, Equal, Greater}
use Rattle.std.proofs.lemmas.Bool.{and_parts, true≢false}
use Rattle.std.proofs.lemmas.Grind.{flat_map-append}
use Rattle.std.proofs.lemmas.List.{length-drop, length-map, map-append, take-append-drop, take-append-le}
use Rattle.std.proofs.lemmas.List.Elements.{All-head, filter-append}
use Rattle.std.proofs.lemmas.List.Sorted.{IsPermutation-refl}
use Rattle.std.proofs.lemmas.List.Sums.{fold-append}
use Rattle.ds_base.specs.declared.column.Column.{Column}
use Rattle.ds_base.specs.KeyColumn.{is_by_key, is_key_name, key_descends}
use Rattle.ds_base.specs.KeyOrder.{key_cmp}
use Rattle.ds_base.specs.KeyOrderLaws.{key_cmp-same, key_cmp-total}
use Rattle.ds_base.specs.Keys.{KeyParts}
use Rattle.ds_base.specs.Sorting.{insert_by, sorted_by}
use Rattle.ds_base.specs.SortingLaws.{Ascends, Ascends-from_IsSorted, IsSorted-from_Ascends, NoneBefore, sorted_by-filter, sorted_by-only}
use Rattle.ds_bytes.specs.Rows.{RowParts, row_cmp}
use Rattle.ds_entity.specs.Entities.{EntityParts}
use Rattle.ds_entity.specs.EntityOrder.{entity_cmp}
use Rattle.ds_query.specs.declared.branch.Branch.{Branch}
use Rattle.ds_query.specs.declared.branch.Normal.{Normal}
use Rattle.ds_query.specs.declared.branch.Window.{Window}
use Rattle.ds_query.specs.Filters.{projected}
use Rattle.ds_query.specs.Lawful.{IsLawfulNormal}
use Rattle.ds_rows.specs.IndexedValues.{each_way, indexed_values}
use Rattle.ds_model.specs.Results.{at_most, branch_results, first_of_each, first_rows, is_between, last_place, page_of, plus_limit}
use Rattle.ds_model.specs.Results.{query_rows, result, same_mark, united}
use Rattle.ds_model.specs.Rows.{compare_rows, entity_rows, first_value, is_found, is_within, rows, value_columns}
use Rattle.ds_model.proofs.AllOf.{all-filter}
use Rattle.ds_pages.proofs.FirstLaws.{with_item}
use Rattle.ds_pages.proofs.PageLaws.{drop-seen}
use Rattle.ds_plain.specs.Answers.{query_page}
use Rattle.ds_pages.specs.Pages.{with_places}
use Rattle.ds_pages.specs.Places.{placed}
use Rattle.ds_pages.specs.declared.row_page.RowPage.{RowPage}
use Rattle.ds_judging_reads.specs.Filling.{IsFilledBy}

-- ---- what is in front in a list

few_taken : {A : Type 0} (n : ℕ) (xs : List A) → length (take n xs) ≤ length xs
few_taken zero xs = omega arith
few_taken (suc n) [] = omega arith
few_taken (suc n) (x ∷ xs) = let rest = few_taken n xs in omega (arith, rest)

all_front : {X : Type 0} (P : X → Type 0) (xs ys : List X) → AllByRecursion P (xs ++ ys) → AllByRecursion P xs
all_front P [] ys p = tt
all_front P (x ∷ xs) ys p = (p.0, all_front P xs ys p.1)

module _ {X : Type 0} (R : X → X → Ordering) where
  ascends_front : (xs ys : List X) → Ascends R (xs ++ ys) → Ascends R xs
  ascends_front [] ys up = tt
  ascends_front (x ∷ xs) ys up = (all_front (λ y. is_gt (R x y) ≡ false) xs ys up.0, ascends_front xs ys up.1)

  ascends_filter : (p : X → Bool) (xs : List X) → Ascends R xs → Ascends R (filter p xs)
  ascends_filter p [] up = tt
  ascends_filter p (x ∷ xs) up = by (ascends_filter p xs up.1) (p x) where
    by : Ascends R (filter p xs) → (b : Bool) → Ascends R (cond b (x ∷ filter p xs) (filter p xs))
    by rest true = (all-filter (λ y. is_gt (R x y) ≡ false) p xs up.0, rest)
    by rest false = rest

-- ---- of each mark the first

module _ {X : Type 0} (same : X → X → Bool) where
  -- what more items add to those that are kept
  abbrev more : List X → List X → List X
  more kept [] = []
  more kept (x ∷ xs) = cond (list_any (same x) kept) (more kept xs) (x ∷ more (kept ++ x ∷ []) xs)

  kept_more : (kept xs : List X) → fold (with_item same) kept xs ≡ kept ++ more kept xs
  kept_more kept [] = sym (append-nil kept)
  kept_more kept (x ∷ xs) = by (kept_more kept xs) (kept_more (kept ++ x ∷ []) xs) (list_any (same x) kept) where
    by : fold (with_item same) kept xs ≡ kept ++ more kept xs
        → fold (with_item same) (kept ++ x ∷ []) xs ≡ kept ++ x ∷ [] ++ more (kept ++ x ∷ []) xs → (b : Bool)
        → fold (with_item same) (cond b kept (kept ++ x ∷ [])) xs ≡ kept ++ cond b (more kept xs) (x ∷ more (kept ++ x ∷ []) xs)
    by old new true = old
    by old new false = new ∙ append_assoc kept (x ∷ []) (more (kept ++ x ∷ []) xs)

-- ---- pages

module _ (columns : List Column) (w : Window) (limit : ℕ) (is : w.limit ≡ Some limit) (some : 1 ≤ limit) (xs zs : List RowParts) where
  -- what fills the page in front is the page
  page_front : limit ≤ length (page_of columns w xs).rows → page_of columns w (xs ++ zs) ≡ page_of columns w xs
  page_front full =
      let own : limit ≤ length (take limit (drop w.offset xs)) = subst (λ l. limit ≤ length (at_most l (drop w.offset xs))) is full in
      let long : w.offset + limit ≤ length xs =
      omega (arith, own, few_taken limit (drop w.offset xs), length-drop w.offset xs, some) in
      let taken : at_most (plus_limit w.offset w.limit) (xs ++ zs) ≡ at_most (plus_limit w.offset w.limit) xs =
      ap (λ l. at_most (plus_limit w.offset l) (xs ++ zs)) is ∙ take-append-le (w.offset + limit) xs zs long
      ∙ ap (λ l. at_most (plus_limit w.offset l) xs) (sym is) in
      let shown : at_most w.limit (drop w.offset (xs ++ zs)) ≡ at_most w.limit (drop w.offset xs) =
      sym (drop-seen w.offset w.limit (xs ++ zs)) ∙ ap (drop w.offset) taken ∙ drop-seen w.offset w.limit xs in
      λ i. record { rows = shown i; next = last_place columns w.start (taken i) }

-- ---- rows in the order of keys

abbrev keyed : KeyParts → RowParts
keyed k = record { values = []; key = k }

abbrev by_keys : RowParts → RowParts → Ordering
by_keys x y = key_cmp x.key y.key

by_keys-total : IsTotalOrder by_keys
by_keys-total = on_total (λ (r : RowParts). r.key) key_cmp-total

no_values : (columns : List Column) → is_by_key columns ≡ true → value_columns columns ≡ []
no_values [] is = absurd (true≢false (sym is))
no_values (c ∷ []) is = ap (λ b. cond (not b) (c ∷ []) []) (and_parts (is_key_name c.name) (not c.descending) is).0
no_values (c ∷ d ∷ cs) is = absurd (true≢false (sym is))

ascending : (columns : List Column) → is_by_key columns ≡ true → key_descends columns ≡ false
ascending [] is = absurd (true≢false (sym is))
ascending (c ∷ []) is = by (is_key_name c.name) c.descending is where
  by : (a b : Bool) → (a && not b) ≡ true → ((a && b) || false) ≡ false
  by true true e = sym e
  by true false e = refl
  by false true e = refl
  by false false e = refl
ascending (c ∷ d ∷ cs) is = absurd (true≢false (sym is))

inserted : (ks : List KeyParts) (k : KeyParts) → insert_by by_keys (map keyed ks) (keyed k) ≡ map keyed (insert_by key_cmp ks k)
inserted [] k = refl
inserted (l ∷ ls) k = by (inserted ls k) (key_cmp k l) where
  by : insert_by by_keys (map keyed ls) (keyed k) ≡ map keyed (insert_by key_cmp ls k) → (r : Ordering)
      → match_ordering r (keyed k ∷ keyed l ∷ map keyed ls) (keyed k ∷ keyed l ∷ map keyed ls)
      (keyed l ∷ insert_by by_keys (map keyed ls) (keyed k))
      ≡ map keyed (match_ordering r (k ∷ l ∷ ls) (k ∷ l ∷ ls) (l ∷ insert_by key_cmp ls k))
  by rest Less = refl
  by rest Equal = refl
  by rest Greater = ap (λ rs. keyed l ∷ rs) rest

all_inserted : (done ks : List KeyParts)
    → fold (insert_by by_keys) (map keyed done) (map keyed ks) ≡ map keyed (fold (insert_by key_cmp) done ks)
all_inserted done [] = refl
all_inserted done (k ∷ ks) =
    ap (λ rs. fold (insert_by by_keys) rs (map keyed ks)) (inserted done k) ∙ all_inserted (insert_by key_cmp done k) ks

-- keys in order, as rows
in_order : (ks : List KeyParts) → Ascends key_cmp ks → sorted_by by_keys (map keyed ks) ≡ map keyed ks
in_order ks up =
    all_inserted [] ks
    ∙ ap (map keyed)
    (sym (sorted_by-only key_cmp-total key_cmp-same ks ks (IsSorted-from_Ascends key_cmp-total ks up) (IsPermutation-refl ks)))

abbrev keys_of : List EntityParts → List KeyParts
keys_of = map (λ (e : EntityParts). e.key)

none_before : (e : EntityParts) (es : List EntityParts) → NoneBefore entity_cmp e es → NoneBefore key_cmp e.key (keys_of es)
none_before e [] first = tt
none_before e (d ∷ es) first = (first.0, none_before e es first.1)

-- the rows of an entity, by the columns that have values
abbrev rows_by : EntityParts → List Column → List RowParts
rows_by e columns = map (λ vs. record { values = vs; key = e.key }) (each_way (map (λ (c : Column). indexed_values e c.name) columns))

keys_ascend : (es : List EntityParts) → Ascends entity_cmp es → Ascends key_cmp (keys_of es)
keys_ascend [] up = tt
keys_ascend (e ∷ es) up = (none_before e es up.0, keys_ascend es up.1)

module _ (n : Normal) (w : Window) (q : Branch) (only : n.branches ≡ q ∷ []) (single : n.several ≡ false)
    (by_key : is_by_key q.columns ≡ true) where
  abbrev same : RowParts → RowParts → Bool
  same = same_mark q.columns (projected q.select)

  abbrev within : RowParts → Bool
  within row = is_within q.range (first_value row)

  abbrev between : RowParts → Bool
  between = is_between q.columns w.start w.end

  abbrev found_keys : List EntityParts → List KeyParts
  found_keys es = keys_of (filter (is_found q) es)

  abbrev kept : List KeyParts → List RowParts
  kept ks = filter between (filter within (map keyed ks))

  query_is : (es : List EntityParts) → query_rows n w es ≡ branch_results q w.start w.end es
  query_is es =
      ap (λ b. cond b (first_rows n.merged [] (united n es)) (flat_map (λ p. branch_results p w.start w.end es) n.branches)) single
      ∙ ap (flat_map (λ p. branch_results p w.start w.end es)) only ∙ append-nil (branch_results q w.start w.end es)

  one_row : (e : EntityParts) → entity_rows q.columns e ≡ keyed e.key ∷ []
  one_row e = ap (rows_by e) (no_values q.columns by_key)

  each_row : (es : List EntityParts) → flat_map (entity_rows q.columns) es ≡ map keyed (keys_of es)
  each_row [] = refl
  each_row (e ∷ es) =
      ap (λ rs. rs ++ flat_map (entity_rows q.columns) es) (one_row e) ∙ ap (λ rs. keyed e.key ∷ rs) (each_row es)

  compares : compare_rows q.columns ≡ by_keys
  compares =
      ap (λ cs. row_cmp (map (λ (c : Column). c.descending) cs) (key_descends q.columns)) (no_values q.columns by_key)
      ∙ ap (row_cmp []) (ascending q.columns by_key)

  sorted : (ks : List KeyParts) → Ascends key_cmp ks → sorted_by (compare_rows q.columns) (kept ks) ≡ kept ks
  sorted ks up =
      ap (λ R. sorted_by R (kept ks)) compares
      ∙ sorted_by-filter by_keys-total between (filter within (map keyed ks))
      ∙ ap (filter between) (sorted_by-filter by_keys-total within (map keyed ks) ∙ ap (filter within) (in_order ks up))

  firsts_are : (es : List EntityParts) → Ascends entity_cmp es → query_rows n w es ≡ first_of_each same (kept (found_keys es))
  firsts_are es up =
      query_is es
      ∙ ap (λ rs. first_rows q.columns (projected q.select) (filter between (filter within rs))) (each_row (filter (is_found q) es))
      ∙ ap (first_of_each same)
      (sorted (found_keys es) (keys_ascend (filter (is_found q) es) (ascends_filter entity_cmp (is_found q) es up)))

  kept_joined : (xs ys : List EntityParts) → kept (found_keys (xs ++ ys)) ≡ kept (found_keys xs) ++ kept (found_keys ys)
  kept_joined xs ys =
      ap (λ es. kept (keys_of es)) (filter-append (is_found q) xs ys)
      ∙ ap kept (map-append (λ (e : EntityParts). e.key) (filter (is_found q) xs) (filter (is_found q) ys))
      ∙ ap (λ rs. filter between (filter within rs)) (map-append keyed (found_keys xs) (found_keys ys))
      ∙ ap (filter between) (filter-append within (map keyed (found_keys xs)) (map keyed (found_keys ys)))
      ∙ filter-append between (filter within (map keyed (found_keys xs))) (filter within (map keyed (found_keys ys)))

  result_front : (xs ys : List EntityParts) (limit : ℕ) → Ascends entity_cmp (xs ++ ys) → w.limit ≡ Some limit → 1 ≤ limit
      → limit ≤ length (result n w xs).rows → result n w (xs ++ ys) ≡ result n w xs
  result_front xs ys limit up is some full =
      let firsts = first_of_each same (kept (found_keys xs)) in
      let here : query_rows n w xs ≡ firsts = firsts_are xs (ascends_front entity_cmp xs ys up) in
      let whole : query_rows n w (xs ++ ys) ≡ firsts ++ more same firsts (kept (found_keys ys)) =
      firsts_are (xs ++ ys) up ∙ ap (first_of_each same) (kept_joined xs ys)
      ∙ fold-append (with_item same) [] (kept (found_keys xs)) (kept (found_keys ys))
      ∙ kept_more same firsts (kept (found_keys ys)) in
      ap (page_of n.merged w) whole
      ∙ page_front n.merged w limit is some firsts (more same firsts (kept (found_keys ys)))
      (subst (λ rs. limit ≤ length (page_of n.merged w rs).rows) here full)
      ∙ ap (page_of n.merged w) (sym here)

module _ (n : Normal) (w : Window) (limit size : ℕ) (es : List EntityParts) (filled : IsFilledBy n w limit) (up : IsSorted entity_cmp es)
    (lawful : IsLawfulNormal n) where
  entity_total : IsTotalOrder entity_cmp
  entity_total = on_total (λ (e : EntityParts). e.key) key_cmp-total

  front_of : (qs : List Branch) → n.branches ≡ qs → length qs ≡ 1 → All (λ (q : Branch). q.columns ≡ n.merged) qs
      → limit ≤ length (query_page n w (take size es)).rows → query_page n w (take size es) ≡ query_page n w es
  front_of [] are one alike full = absurd (omega (arith, one))
  front_of (q ∷ []) are one alike full =
      let all : take size es ++ drop size es ≡ es = take-append-drop size es in
      let rising : Ascends entity_cmp (take size es ++ drop size es) =
      subst (Ascends entity_cmp) (sym all) (Ascends-from_IsSorted entity_total es up) in
      let by_key : is_by_key q.columns ≡ true =
      ap is_by_key (All-head (λ (q : Branch). q.columns ≡ n.merged) q [] alike) ∙ filled.by_key in
      ap (with_places n.merged)
      (sym (result_front n w q are filled.single by_key (take size es) (drop size es) limit rising filled.limited filled.some
      (subst (λ k. limit ≤ k) (length-map (result n w (take size es)).rows (placed n.merged)) full))
      ∙ ap (result n w) all)
  front_of (q ∷ p ∷ qs) are one alike full = absurd (omega (arith, one))

  -- The page of the entities in front is that of all, where it is full.
  pub front_page : (page : RowPage) → page ≡ query_page n w (take size es) → limit ≤ length page.rows → page ≡ query_page n w es
  front_page page is long =
      is ∙ front_of n.branches refl (lawful.single filled.single) (lawful.single_columns filled.single)
      (subst (λ (p : RowPage). limit ≤ length p.rows) is long)
