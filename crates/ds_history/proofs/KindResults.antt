-- A query whose branches all have one kind sees nothing of other kinds.
use Rattle.std.proofs.Common.{◌≡◌, ℕ, zero, suc, List, [], ◌∷◌, ◌++◌, take, drop, map, fold, refl, ap, sym, ◌∙◌}
use Rattle.std.proofs.Common.{Bool, true, false, cond, ◌&&◌, Some, None, Option}
use Rattle.std.specs.Prelude.{bytes_eq, filter, flat_map}
use Rattle.std.specs.List.{AllByRecursion, list_all, list_any}
use Rattle.std.proofs.lemmas.Bool.{and_parts}
use Rattle.ds_base.specs.declared.column.Column.{Column}
use Rattle.ds_base.specs.Sorting.{sorted_by}
use Rattle.ds_bytes.specs.Rows.{RowParts}
use Rattle.ds_entity.specs.Entities.{EntityParts}
use Rattle.ds_query.specs.declared.branch.Branch.{Branch}
use Rattle.ds_query.specs.declared.branch.Normal.{Normal}
use Rattle.ds_query.specs.declared.branch.Window.{Window}
use Rattle.ds_query.specs.declared.query.Select.{Select}
use Rattle.ds_query.specs.declared.query.Select.TheVariants as select
use Rattle.ds_query.specs.declared.row.Place.{Place}
use Rattle.ds_query.specs.Filters.{projected}
use Rattle.ds_query.specs.RowValues.{value_columns}
use Rattle.ds_rows.specs.IndexedValues.{each_way, indexed_values, kind_in}
use Rattle.ds_model.specs.Results.{at_most, branch_results, extended, first_rows, is_between, item_of}
use Rattle.ds_model.specs.Results.{items_of, page_of, query_rows, result}
use Rattle.ds_model.specs.Results.{entity_of, same_mark, united}
use Rattle.ds_model.specs.Rows.{compare_rows, entity_rows, first_value, has_kind, has_value, is_found, is_under, is_within, rows}
use Rattle.ds_model.proofs.AllOf.{all-append, all-filter, all-flat_map, all-map, all-sorted, all_of}
use Rattle.ds_history.specs.Versions.{of_kind}
use Rattle.ds_history.proofs.SeenLaws.{found_kind}

module _ (kind : List ℕ) where
  -- each branch has this kind
  abbrev OfKind : List Branch → Type 0
  OfKind = AllByRecursion (λ (q : Branch). q.kind ≡ Some kind)

  -- the row is of an entity of it
  abbrev pub RowOf : RowParts → Type 0
  RowOf r = kind_in kind r.key ≡ true

  counts_kind : (q : Branch) (e : EntityParts) → q.kind ≡ Some kind → is_found q e ≡ true → kind_in kind e.key ≡ true
  counts_kind q e has found =
      let space = bytes_eq e.key.namespace q.namespace in
      let own = has_kind q.kind e.key in
      let under = is_under q.ancestor e.key in
      let three = (and_parts (space && own && under) (list_all (has_value e) q.equal) found).0 in
      let two = (and_parts (space && own) under three).0 in
      sym (ap (λ o. has_kind o e.key) has) ∙ (and_parts space own two).1

  -- ---- nothing of another kind counts

  found_same : (q : Branch) (es : List EntityParts) → q.kind ≡ Some kind
      → filter (is_found q) (of_kind (Some kind) es) ≡ filter (is_found q) es
  found_same q [] has = refl
  found_same q (e ∷ es) has = by (found_same q es has) (kind_in kind e.key) refl (is_found q e) refl where
    apart : false ≡ true → ⊥
    apart e = cc

    by : filter (is_found q) (of_kind (Some kind) es) ≡ filter (is_found q) es → (a : Bool) → kind_in kind e.key ≡ a → (b : Bool)
        → is_found q e ≡ b
        → filter (is_found q) (cond a (e ∷ of_kind (Some kind) es) (of_kind (Some kind) es))
        ≡ cond b (e ∷ filter (is_found q) es) (filter (is_found q) es)
    by later true own true found =
        ap (λ c. cond c (e ∷ filter (is_found q) (of_kind (Some kind) es)) (filter (is_found q) (of_kind (Some kind) es))) found
        ∙ ap (λ fs. e ∷ fs) later
    by later true own false found =
        ap (λ c. cond c (e ∷ filter (is_found q) (of_kind (Some kind) es)) (filter (is_found q) (of_kind (Some kind) es))) found ∙ later
    by later false other true found = absurd (apart (sym other ∙ counts_kind q e has found))
    by later false other false found = later

  rows_same : (q : Branch) (es : List EntityParts) → q.kind ≡ Some kind → rows q (of_kind (Some kind) es) ≡ rows q es
  rows_same q es has =
      ap (λ fs. filter (λ row. is_within q.range (first_value row)) (flat_map (entity_rows q.columns) fs)) (found_same q es has)

  branches_same : (start end : Option Place) (qs : List Branch) (es : List EntityParts) → OfKind qs
      → flat_map (λ q. branch_results q start end (of_kind (Some kind) es)) qs ≡ flat_map (λ q. branch_results q start end es) qs
  branches_same start end [] es has = refl
  branches_same start end (q ∷ qs) es has =
      ap (λ rs. first_rows q.columns (projected q.select) (filter (is_between q.columns start end) rs)
      ++ flat_map (λ p. branch_results p start end (of_kind (Some kind) es)) qs) (rows_same q es has.0)
      ∙ ap (λ rs. branch_results q start end es ++ rs) (branches_same start end qs es has.1)

  united_same : (merged : List Column) (qs : List Branch) (es : List EntityParts) → OfKind qs
      → flat_map (λ q. map (extended merged q) (rows q (of_kind (Some kind) es))) qs
      ≡ flat_map (λ q. map (extended merged q) (rows q es)) qs
  united_same merged [] es has = refl
  united_same merged (q ∷ qs) es has =
      ap (λ rs. map (extended merged q) rs ++ flat_map (λ p. map (extended merged p) (rows p (of_kind (Some kind) es))) qs)
      (rows_same q es has.0)
      ∙ ap (λ rs. map (extended merged q) (rows q es) ++ rs) (united_same merged qs es has.1)

  -- The query has the same results over the entities of the kind alone.
  pub kind_result : (n : Normal) (w : Window) (es : List EntityParts) → OfKind n.branches
      → result n w (of_kind (Some kind) es) ≡ result n w es
  kind_result n w es has =
      ap (page_of n.merged w)
      (ap (λ rs. cond n.several (first_rows n.merged [] rs)
      (flat_map (λ q. branch_results q w.start w.end (of_kind (Some kind) es)) n.branches))
      (united_same n.merged n.branches es has)
      ∙ ap (λ rs. cond n.several (first_rows n.merged [] (united n es)) rs) (branches_same w.start w.end n.branches es has))

  -- ---- each row is of the kind

  entities_of : (q : Branch) (es : List EntityParts) → q.kind ≡ Some kind
      → AllByRecursion (λ (e : EntityParts). kind_in kind e.key ≡ true) (filter (is_found q) es)
  entities_of q [] has = tt
  entities_of q (e ∷ es) has = by (entities_of q es has) (is_found q e) refl where
    by : AllByRecursion (λ (f : EntityParts). kind_in kind f.key ≡ true) (filter (is_found q) es) → (b : Bool) → is_found q e ≡ b
        → AllByRecursion (λ (f : EntityParts). kind_in kind f.key ≡ true) (cond b (e ∷ filter (is_found q) es) (filter (is_found q) es))
    by rest true found = (counts_kind q e has found, rest)
    by rest false found = rest

  rows_of : (columns : List Column) (es : List EntityParts) → AllByRecursion (λ (e : EntityParts). kind_in kind e.key ≡ true) es
      → AllByRecursion (λ e. AllByRecursion RowOf (entity_rows columns e)) es
  rows_of columns [] p = tt
  rows_of columns (e ∷ es) p = (
    all-map (λ way. kind_in kind e.key ≡ true) RowOf (λ vs. record { values = vs; key = e.key }) (λ way is. is)
        (each_way (map (λ c. indexed_values e c.name) (value_columns columns)))
        (all_of (λ way. kind_in kind e.key ≡ true) (λ way. p.0) (each_way (map (λ c. indexed_values e c.name) (value_columns columns)))),
    rows_of columns es p.1,
  )

  rows_in : (q : Branch) (es : List EntityParts) → q.kind ≡ Some kind → AllByRecursion RowOf (rows q es)
  rows_in q es has =
      all-filter RowOf (λ row. is_within q.range (first_value row)) (flat_map (entity_rows q.columns) (filter (is_found q) es))
      (all-flat_map RowOf (entity_rows q.columns) (filter (is_found q) es)
      (rows_of q.columns (filter (is_found q) es) (entities_of q es has)))

  kept_in : (same : RowParts → RowParts → Bool) (kept rs : List RowParts) → AllByRecursion RowOf kept → AllByRecursion RowOf rs
      → AllByRecursion RowOf (fold (λ kept x. cond (list_any (same x) kept) kept (kept ++ x ∷ [])) kept rs)
  kept_in same kept [] p q = p
  kept_in same kept (r ∷ rs) p q =
      kept_in same (cond (list_any (same r) kept) kept (kept ++ r ∷ [])) rs (by (list_any (same r) kept)) q.1 where
        by : (b : Bool) → AllByRecursion RowOf (cond b kept (kept ++ r ∷ []))
        by true = p
        by false = all-append RowOf kept (r ∷ []) p (q.0, tt)

  firsts_in : (columns : List Column) (names : List (List ℕ)) (rs : List RowParts) → AllByRecursion RowOf rs
      → AllByRecursion RowOf (first_rows columns names rs)
  firsts_in columns names rs p =
      kept_in (same_mark columns names) [] (sorted_by (compare_rows columns) rs) tt (all-sorted RowOf (compare_rows columns) rs p)

  branches_in : (start end : Option Place) (qs : List Branch) (es : List EntityParts) → OfKind qs
      → AllByRecursion RowOf (flat_map (λ q. branch_results q start end es) qs)
  branches_in start end [] es has = tt
  branches_in start end (q ∷ qs) es has =
      all-append RowOf (branch_results q start end es) (flat_map (λ p. branch_results p start end es) qs)
      (firsts_in q.columns (projected q.select) (filter (is_between q.columns start end) (rows q es))
      (all-filter RowOf (is_between q.columns start end) (rows q es) (rows_in q es has.0)))
      (branches_in start end qs es has.1)

  united_in : (merged : List Column) (qs : List Branch) (es : List EntityParts) → OfKind qs
      → AllByRecursion RowOf (flat_map (λ q. map (extended merged q) (rows q es)) qs)
  united_in merged [] es has = tt
  united_in merged (q ∷ qs) es has =
      all-append RowOf (map (extended merged q) (rows q es)) (flat_map (λ p. map (extended merged p) (rows p es)) qs)
      (all-map RowOf RowOf (extended merged q) (λ row is. is) (rows q es) (rows_in q es has.0))
      (united_in merged qs es has.1)

  taken_in : (n : ℕ) (rs : List RowParts) → AllByRecursion RowOf rs → AllByRecursion RowOf (take n rs)
  taken_in zero rs p = tt
  taken_in (suc n) [] p = tt
  taken_in (suc n) (r ∷ rs) p = (p.0, taken_in n rs p.1)

  left_in : (n : ℕ) (rs : List RowParts) → AllByRecursion RowOf rs → AllByRecursion RowOf (drop n rs)
  left_in zero rs p = p
  left_in (suc n) [] p = tt
  left_in (suc n) (r ∷ rs) p = left_in n rs p.1

  limited_in : (limit : Option ℕ) (rs : List RowParts) → AllByRecursion RowOf rs → AllByRecursion RowOf (at_most limit rs)
  limited_in None rs p = p
  limited_in (Some n) rs p = taken_in n rs p

  result_in : (n : Normal) (w : Window) (es : List EntityParts) → OfKind n.branches → AllByRecursion RowOf (result n w es).rows
  result_in n w es has = limited_in w.limit (drop w.offset (query_rows n w es)) (left_in w.offset (query_rows n w es) (by n.several)) where
    by : (several : Bool)
        → AllByRecursion RowOf (cond several (first_rows n.merged [] (united n es))
        (flat_map (λ q. branch_results q w.start w.end es) n.branches))
    by true = firsts_in n.merged [] (united n es) (united_in n.merged n.branches es has)
    by false = branches_in w.start w.end n.branches es has

  -- ---- what is told of the rows

  item_same : (columns : List Column) (selected : Select) (es : List EntityParts) (row : RowParts) → RowOf row
      → item_of columns selected (of_kind (Some kind) es) row ≡ item_of columns selected es row
  item_same columns select.Entities es row own =
      ap (λ o. record { key = row.key; entity = o; projected = [] })
      (found_kind (Some kind) es row.key ∙ ap (λ b. cond b (entity_of es row.key) None) own)
  item_same columns select.Keys es row own = refl
  item_same columns (select.Projection names) es row own = refl

  items_same : (columns : List Column) (selected : Select) (es : List EntityParts) (rs : List RowParts) → AllByRecursion RowOf rs
      → items_of columns selected (of_kind (Some kind) es) rs ≡ items_of columns selected es rs
  items_same columns selected es [] own = refl
  items_same columns selected es (r ∷ rs) own =
      ap (λ item. item ∷ items_of columns selected (of_kind (Some kind) es) rs) (item_same columns selected es r own.0)
      ∙ ap (λ items. item_of columns selected es r ∷ items) (items_same columns selected es rs own.1)

  -- And the same is told of its rows.
  pub kind_items : (n : Normal) (w : Window) (selected : Select) (es : List EntityParts) → OfKind n.branches
      → items_of n.merged selected (of_kind (Some kind) es) (result n w (of_kind (Some kind) es)).rows
      ≡ items_of n.merged selected es (result n w es).rows
  kind_items n w selected es has =
      ap (λ p. items_of n.merged selected (of_kind (Some kind) es) p.rows) (kind_result n w es has)
      ∙ items_same n.merged selected es (result n w es).rows (result_in n w es has)
