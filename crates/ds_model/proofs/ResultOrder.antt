-- The results of a query don't depend on the order of the entities: rows are put in one order, in which only equal rows tie.
use Rattle.std.proofs.Common.{◌≡◌, suc, List, [], ◌∷◌, ◌++◌, length, map, fold, refl, ap, sym, ◌∙◌, Bool, true, false, cond, append-nil}
use Rattle.std.specs.Prelude.{filter, flat_map, Option}
use Rattle.std.specs.List.{AllByRecursion}
use Rattle.std.proofs.lemmas.List.{length-map}
use Rattle.std.proofs.lemmas.List.Elements.{filter-append}
use Rattle.std.proofs.lemmas.List.Sums.{fold-append}
use Rattle.ds_base.specs.declared.column.Column.{Column}
use Rattle.ds_base.specs.declared.index_value.IndexValue.{IndexValue}
use Rattle.ds_entity.specs.Entities.{EntityParts}
use Rattle.ds_base.specs.Sorting.{insert_by, sorted_by}
use Rattle.ds_bytes.specs.Rows.{RowParts}
use Rattle.ds_query.specs.declared.branch.Branch.{Branch}
use Rattle.ds_query.specs.declared.branch.Normal.{Normal}
use Rattle.ds_query.specs.declared.branch.Window.{Window}
use Rattle.ds_query.specs.declared.query.Select.{Select}
use Rattle.ds_query.specs.declared.query.Select.TheVariants as select
use Rattle.ds_query.specs.declared.row.Place.{Place}
use Rattle.ds_query.specs.Filters.{projected}
use Rattle.ds_rows.specs.IndexedValues.{indexed_values, each_way}
use Rattle.ds_model.specs.Results.{first_of_each, same_mark, first_rows, is_between, page_of, branch_results, extended, united}
use Rattle.ds_model.specs.Results.{query_rows, result, item_of, items_of}
use Rattle.ds_model.specs.Rows.{rows, entity_rows, value_columns, is_found, is_within, first_value, compare_rows}
use Rattle.ds_model.specs.ByKey.{entity_cmp, sorted_by_key, KeysDiffer}
use Rattle.ds_model.proofs.AllOf.{all_of, all-filter, all-map, all-flat_map, filter-flat_map, map-flat_map}
use Rattle.ds_model.proofs.FoundByKey.{entity_of-sorted}
use Rattle.ds_model.proofs.RowOrder.{IsLongRow, filled_row_cmp, filled_row-total, row-same, sorted-filled}
use Rattle.ds_model.proofs.SameOrder.{put-sorted}

-- ---- each row has a value for each column

ways_long : (lists : List (List IndexValue)) → AllByRecursion (λ (way : List IndexValue). length way ≡ length lists) (each_way lists)
ways_long [] = (refl, tt)
ways_long (values ∷ lists) =
    all-flat_map (λ (way : List IndexValue). length way ≡ length (values ∷ lists)) (λ v. map (λ vs. v ∷ vs) (each_way lists)) values
    (all_of (λ v. AllByRecursion (λ (way : List IndexValue). length way ≡ length (values ∷ lists)) (map (λ vs. v ∷ vs) (each_way lists)))
    (λ v. all-map (λ (way : List IndexValue). length way ≡ length lists)
    (λ (way : List IndexValue). length way ≡ length (values ∷ lists)) (λ vs. v ∷ vs) (λ way is. ap suc is) (each_way lists)
    (ways_long lists))
    values)

long_rows : (columns : List Column) (e : EntityParts) → AllByRecursion (IsLongRow columns) (entity_rows columns e)
long_rows columns e =
    let lists : List (List IndexValue) = map (λ (c : Column). indexed_values e c.name) (value_columns columns) in
    all-map (λ (way : List IndexValue). length way ≡ length lists) (IsLongRow columns) (λ vs. record { values = vs; key = e.key })
    (λ way is. is ∙ length-map (value_columns columns) (λ (c : Column). indexed_values e c.name) ∙ sym
    (length-map (value_columns columns) (λ (c : Column). c.descending)))
    (each_way lists) (ways_long lists)

pub long_branch : (q : Branch) (es : List EntityParts) → AllByRecursion (IsLongRow q.columns) (rows q es)
long_branch q es =
    all-filter (IsLongRow q.columns) (λ row. is_within q.range (first_value row))
    (flat_map (entity_rows q.columns) (filter (is_found q) es))
    (all-flat_map (IsLongRow q.columns) (entity_rows q.columns) (filter (is_found q) es)
    (all_of (λ e. AllByRecursion (IsLongRow q.columns) (entity_rows q.columns e)) (long_rows q.columns) (filter (is_found q) es)))

pub long_extended : (merged : List Column) (q : Branch) (row : RowParts) → IsLongRow merged (extended merged q row)
long_extended merged q row =
    length-map (value_columns merged) _ ∙ sym (length-map (value_columns merged) (λ (c : Column). c.descending))

-- ---- the rows of a branch, entity by entity

abbrev own_rows : Branch → EntityParts → List RowParts
own_rows q e = rows q (e ∷ [])

-- the rows of entities that count
abbrev given : Branch → List EntityParts → List RowParts
given q fs = filter (λ row. is_within q.range (first_value row)) (flat_map (entity_rows q.columns) fs)

by_entity : (q : Branch) (es : List EntityParts) → rows q es ≡ flat_map (own_rows q) es
by_entity q [] = refl
by_entity q (e ∷ es) = by (is_found q e) ∙ ap (λ rs. own_rows q e ++ rs) (by_entity q es) where
  by : (b : Bool) → given q (cond b (e ∷ filter (is_found q) es) (filter (is_found q) es)) ≡ given q (cond b (e ∷ []) []) ++ rows q es
  by true =
      filter-append (λ row. is_within q.range (first_value row)) (entity_rows q.columns e)
      (flat_map (entity_rows q.columns) (filter (is_found q) es))
      ∙ ap (λ rs. filter (λ row. is_within q.range (first_value row)) rs ++ rows q es) (sym (append-nil (entity_rows q.columns e)))
  by false = refl

-- ---- rows in order

module _ (columns : List Column) (f : EntityParts → List RowParts)
    (long : (e : EntityParts) → AllByRecursion (IsLongRow columns) (f e)) where
  abbrev put : List RowParts → List RowParts → List RowParts
  put done rs = fold (insert_by (filled_row_cmp columns)) done rs

  put-same : (done : List RowParts) (es : List EntityParts) → put done (flat_map f (sorted_by_key es)) ≡ put done (flat_map f es)
  put-same done es =
      put-sorted (filled_row-total columns) (IsLongRow columns) (row-same columns) entity_cmp f done es
      (all_of (λ e. AllByRecursion (IsLongRow columns) (f e)) long es)

  all_long : (es : List EntityParts) → AllByRecursion (IsLongRow columns) (flat_map f es)
  all_long es = all-flat_map (IsLongRow columns) f es (all_of (λ e. AllByRecursion (IsLongRow columns) (f e)) long es)

  same_order : (es : List EntityParts)
      → sorted_by (compare_rows columns) (flat_map f (sorted_by_key es)) ≡ sorted_by (compare_rows columns) (flat_map f es)
  same_order es =
      sorted-filled columns (flat_map f (sorted_by_key es)) (all_long (sorted_by_key es)) ∙ put-same [] es
      ∙ sym (sorted-filled columns (flat_map f es) (all_long es))

-- ---- one branch

module _ (q : Branch) (start end : Option Place) where
  between_rows : EntityParts → List RowParts
  between_rows e = filter (is_between q.columns start end) (own_rows q e)

  between : (es : List EntityParts) → filter (is_between q.columns start end) (rows q es) ≡ flat_map between_rows es
  unfolding between_rows
  between es =
      ap (filter (is_between q.columns start end)) (by_entity q es) ∙ filter-flat_map (is_between q.columns start end) (own_rows q) es

  branch-same : (es : List EntityParts) → branch_results q start end (sorted_by_key es) ≡ branch_results q start end es
  unfolding between_rows
  branch-same es =
      ap (first_of_each (same_mark q.columns (projected q.select)))
      (ap (sorted_by (compare_rows q.columns)) (between (sorted_by_key es))
      ∙ same_order q.columns between_rows
      (λ e. all-filter (IsLongRow q.columns) (is_between q.columns start end) (own_rows q e) (long_branch q (e ∷ []))) es
      ∙ ap (sorted_by (compare_rows q.columns)) (sym (between es)))

branches-same : (start end : Option Place) (qs : List Branch) (es : List EntityParts)
    → flat_map (λ q. branch_results q start end (sorted_by_key es)) qs ≡ flat_map (λ q. branch_results q start end es) qs
branches-same start end [] es = refl
branches-same start end (q ∷ qs) es =
    ap (λ rs. rs ++ flat_map (λ p. branch_results p start end (sorted_by_key es)) qs) (branch-same q start end es)
    ∙ ap (λ rs. branch_results q start end es ++ rs) (branches-same start end qs es)

-- ---- several branches

module _ (merged : List Column) where
  abbrev extended_rows : Branch → List EntityParts → List RowParts
  extended_rows q es = map (extended merged q) (rows q es)

  own_extended : Branch → EntityParts → List RowParts
  own_extended q e = map (extended merged q) (own_rows q e)

  long_own : (q : Branch) (e : EntityParts) → AllByRecursion (IsLongRow merged) (own_extended q e)
  unfolding own_extended
  long_own q e =
      all-map (IsLongRow q.columns) (IsLongRow merged) (extended merged q) (λ row is. long_extended merged q row) (own_rows q e)
      (long_branch q (e ∷ []))

  extended_each : (q : Branch) (es : List EntityParts) → extended_rows q es ≡ flat_map (own_extended q) es
  unfolding own_extended
  extended_each q es = ap (map (extended merged q)) (by_entity q es) ∙ map-flat_map (extended merged q) (own_rows q) es

  abbrev put_rows : List RowParts → List RowParts → List RowParts
  put_rows done rs = fold (insert_by (filled_row_cmp merged)) done rs

  united-put : (qs : List Branch) (es : List EntityParts) (done : List RowParts)
      → put_rows done (flat_map (λ q. extended_rows q (sorted_by_key es)) qs) ≡ put_rows done (flat_map (λ q. extended_rows q es) qs)
  united-put [] es done = refl
  united-put (q ∷ qs) es done =
      fold-append (insert_by (filled_row_cmp merged)) done (extended_rows q (sorted_by_key es))
      (flat_map (λ p. extended_rows p (sorted_by_key es)) qs)
      ∙ ap (λ d. put_rows d (flat_map (λ p. extended_rows p (sorted_by_key es)) qs))
      (ap (put_rows done) (extended_each q (sorted_by_key es)) ∙ put-same merged (own_extended q) (long_own q) done es ∙ ap
      (put_rows done) (sym (extended_each q es)))
      ∙ united-put qs es (put_rows done (extended_rows q es))
      ∙ sym (fold-append (insert_by (filled_row_cmp merged)) done (extended_rows q es) (flat_map (λ p. extended_rows p es) qs))

  all_extended : (qs : List Branch) (es : List EntityParts) → AllByRecursion (IsLongRow merged) (flat_map (λ q. extended_rows q es) qs)
  all_extended qs es =
      all-flat_map (IsLongRow merged) (λ q. extended_rows q es) qs
      (all_of (λ q. AllByRecursion (IsLongRow merged) (extended_rows q es))
      (λ q. all-map (IsLongRow q.columns) (IsLongRow merged) (extended merged q) (λ row is. long_extended merged q row) (rows q es)
      (long_branch q es)) qs)

  united-same : (qs : List Branch) (es : List EntityParts)
      → sorted_by (compare_rows merged) (flat_map (λ q. extended_rows q (sorted_by_key es)) qs)
      ≡ sorted_by (compare_rows merged) (flat_map (λ q. extended_rows q es) qs)
  united-same qs es =
      sorted-filled merged (flat_map (λ q. extended_rows q (sorted_by_key es)) qs) (all_extended qs (sorted_by_key es))
      ∙ united-put qs es []
      ∙ sym (sorted-filled merged (flat_map (λ q. extended_rows q es) qs) (all_extended qs es))

-- ---- a query

pub query_rows-sorted : (n : Normal) (w : Window) (es : List EntityParts) → query_rows n w (sorted_by_key es) ≡ query_rows n w es
query_rows-sorted n w es =
    ap (λ rs. cond n.several (first_of_each (same_mark n.merged []) rs)
    (flat_map (λ q. branch_results q w.start w.end (sorted_by_key es)) n.branches))
    (united-same n.merged n.branches es)
    ∙ ap (λ rs. cond n.several (first_rows n.merged [] (united n es)) rs) (branches-same w.start w.end n.branches es)

-- A query over entities in the order of their keys has the results that it has over them in any order.
pub result_sorted : (n : Normal) (w : Window) (es : List EntityParts) → result n w (sorted_by_key es) ≡ result n w es
result_sorted n w es = ap (page_of n.merged w) (query_rows-sorted n w es)

item-sorted : (columns : List Column) (selected : Select) (es : List EntityParts) (row : RowParts) → KeysDiffer es
    → item_of columns selected (sorted_by_key es) row ≡ item_of columns selected es row
item-sorted columns select.Entities es row differ =
    ap (λ o. record { key = row.key; entity = o; projected = [] }) (entity_of-sorted es row.key differ)
item-sorted columns select.Keys es row differ = refl
item-sorted columns (select.Projection names) es row differ = refl

-- And what is told of a row is the same, where the keys differ.
pub items_sorted : (columns : List Column) (selected : Select) (es : List EntityParts) (rs : List RowParts) → KeysDiffer es
    → items_of columns selected (sorted_by_key es) rs ≡ items_of columns selected es rs
items_sorted columns selected es [] differ = refl
items_sorted columns selected es (row ∷ rs) differ =
    ap (λ item. item ∷ items_of columns selected (sorted_by_key es) rs) (item-sorted columns selected es row differ)
    ∙ ap (λ items. item_of columns selected es row ∷ items) (items_sorted columns selected es rs differ)
