-- Strong queries: a query whose branches all have one ancestor sees nothing outside of the ancestor's entity group, so it has the same
-- results over the entities of that group's shard as over the strong view of the journal.
use Rattle.std.proofs.Common.{◌≡◌, ℕ, zero, suc, ◌<◌, ◌≤◌, List, [], ◌∷◌, ◌++◌, length, take, drop, map, fold, refl, ap, sym, ◌∙◌}
use Rattle.std.proofs.Common.{Bool, true, false, cond, ◌&&◌, Some, None, Option, arith}
use Rattle.std.specs.Prelude.{filter, flat_map}
use Rattle.std.specs.Cmp.Lexicographic.{pointwise_decides, bytes_decides}
use Rattle.std.specs.List.{AllByRecursion, list_all, list_any, starts_with}
use Rattle.std.specs.Ordering.{eq_by_cmp}
use Rattle.std.specs.Prelude.{bytes_eq}
use Rattle.std.proofs.lemmas.Bool.{and_parts}
use Rattle.ds_base.specs.declared.column.Column.{Column}
use Rattle.ds_base.specs.declared.key.Elem.{Elem}
use Rattle.ds_base.specs.Keys.{KeyParts, root_of}
use Rattle.ds_base.specs.KeyOrder.{elem_cmp, same_key, is_ancestor}
use Rattle.ds_base.specs.KeyOrderLaws.{same_elem-decides}
use Rattle.ds_entity.specs.Entities.{EntityParts}
use Rattle.ds_base.specs.Sorting.{sorted_by}
use Rattle.ds_bytes.specs.Rows.{RowParts}
use Rattle.ds_query.specs.declared.branch.Branch.{Branch}
use Rattle.ds_query.specs.declared.branch.Normal.{Normal}
use Rattle.ds_query.specs.declared.branch.Window.{Window}
use Rattle.ds_query.specs.declared.conditions.Conditions.{Conditions}
use Rattle.ds_query.specs.declared.query.Query.{Query}
use Rattle.ds_query.specs.declared.query.Select.{Select}
use Rattle.ds_query.specs.declared.query.Select.TheVariants as select
use Rattle.ds_query.specs.declared.row.Place.{Place}
use Rattle.ds_query.specs.Branching.{branch_of, conditions}
use Rattle.ds_query.specs.Filters.{projected}
use Rattle.ds_query.specs.Normals.{normal_form}
use Rattle.ds_log.specs.declared.Commit.{Commit}
use Rattle.ds_log.specs.declared.Entry.{Entry}
use Rattle.ds_log.specs.After.{after}
use Rattle.ds_log.specs.Logs.{entry_writes, shard_list}
use Rattle.ds_log.specs.Shards.{shard_of}
use Rattle.ds_rows.specs.IndexedValues.{indexed_values, each_way}
use Rattle.ds_model.specs.Results.{same_mark, first_rows, is_between, page_of, branch_results, extended, united}
use Rattle.ds_model.specs.Results.{query_rows, result, item_of, items_of, entity_of, at_most}
use Rattle.ds_model.specs.Rows.{rows, entity_rows, is_found, has_kind, is_under, has_value, is_within, first_value}
use Rattle.ds_query.specs.RowValues.{value_columns}
use Rattle.ds_model.specs.Rows.{compare_rows}
use Rattle.ds_model.specs.Views.{strong_view}
use Rattle.ds_model.proofs.GroupViews.{cut, in_group}
use Rattle.ds_model.specs.ByKey.{sorted_by_key, left_by}
use Rattle.ds_model.proofs.AllOf.{all_of, all-append, all-filter, all-map, all-flat_map, all-sorted}
use Rattle.ds_model.proofs.DistinctKeys.{KeysDiffer-after, same_key-itself}
use Rattle.ds_model.proofs.ResultOrder.{result_sorted, items_sorted}
use Rattle.ds_model.proofs.GroupReads.{group_seen, found_in_group}

apart : false ≡ true → ⊥
apart e = cc

-- ---- under an ancestor

first_same : (es ds : List Elem) → 1 ≤ length es → es ≡ take (length es) ds → take 1 ds ≡ take 1 es
first_same [] ds some is = absurd (omega (arith, some))
first_same (e ∷ es) [] some is = absurd (nothing is) where
  nothing : e ∷ es ≡ [] → ⊥
  nothing is = cc
first_same (e ∷ es) (d ∷ ds) some is = let same : e ≡ d = cc in ap (λ x. x ∷ []) (sym same)

-- a key under an ancestor is one of its group
pub group_under : (ancestor k : KeyParts) → 1 ≤ length ancestor.elems → is_ancestor ancestor k ≡ true → root_of k ≡ root_of ancestor
group_under ancestor k some under =
    let both = and_parts (bytes_eq ancestor.namespace k.namespace) (starts_with (eq_by_cmp elem_cmp) k.elems ancestor.elems) under in
    let namespace : ancestor.namespace ≡ k.namespace = (bytes_decides ancestor.namespace k.namespace).0 both.0 in
    let front : ancestor.elems ≡ take (length ancestor.elems) k.elems =
    (pointwise_decides same_elem-decides ancestor.elems (take (length ancestor.elems) k.elems)).0 both.1 in
    let first : take 1 k.elems ≡ take 1 ancestor.elems = first_same ancestor.elems k.elems some front in
    λ i. record { namespace = sym namespace i; elems = first i }

-- each branch has this ancestor
abbrev pub HaveAncestor : KeyParts → List Branch → Type 0
HaveAncestor ancestor = AllByRecursion (λ (q : Branch). q.ancestor ≡ Some ancestor)

all_have : (q : Query) (ancestor : KeyParts) (cs : List Conditions) → q.ancestor ≡ Some ancestor
    → HaveAncestor ancestor (map (branch_of q) cs)
all_have q ancestor [] is = tt
all_have q ancestor (c ∷ cs) is = (is, all_have q ancestor cs is)

-- so do those of the normal form of a query with this ancestor
pub normal_have : (q : Query) (ancestor : KeyParts) → q.ancestor ≡ Some ancestor → HaveAncestor ancestor (normal_form q).branches
normal_have q ancestor is = all_have q ancestor (conditions q.filters) is

module _ (ancestor : KeyParts) (some : 1 ≤ length ancestor.elems) where
  abbrev InGroup : KeyParts → Type 0
  InGroup k = root_of k ≡ root_of ancestor

  abbrev RowIn : RowParts → Type 0
  RowIn r = InGroup r.key

  found_under : (q : Branch) (e : EntityParts) → q.ancestor ≡ Some ancestor → is_found q e ≡ true → InGroup e.key
  found_under q e has found = by (is_under q.ancestor e.key) refl where
    never : (a b d : Bool) → (a && b && false && d) ≡ false
    never true true d = refl
    never true false d = refl
    never false b d = refl

    by : (b : Bool) → is_under q.ancestor e.key ≡ b → InGroup e.key
    by true under = group_under ancestor e.key some (ap (λ o. is_under o e.key) (sym has) ∙ under)
    by false under =
        absurd (apart (sym (ap (λ b. bytes_eq e.key.namespace q.namespace && has_kind q.kind e.key && b && list_all
        (has_value e) q.equal) under
        ∙ never (bytes_eq e.key.namespace q.namespace) (has_kind q.kind e.key) (list_all (has_value e) q.equal)) ∙ found))

  -- ---- nothing outside of the group counts

  found_cut : (q : Branch) (es : List EntityParts) → q.ancestor ≡ Some ancestor
      → filter (is_found q) (cut (root_of ancestor) es) ≡ filter (is_found q) es
  found_cut q [] has = refl
  found_cut q (e ∷ es) has = by (found_cut q es has) (in_group (root_of ancestor) e) refl (is_found q e) refl where
    by : filter (is_found q) (cut (root_of ancestor) es) ≡ filter (is_found q) es → (a : Bool) → in_group (root_of ancestor) e ≡ a
        → (b : Bool) → is_found q e ≡ b
        → filter (is_found q) (cond a (e ∷ cut (root_of ancestor) es) (cut (root_of ancestor) es))
        ≡ cond b (e ∷ filter (is_found q) es) (filter (is_found q) es)
    by later true own true found =
        ap (λ c. cond c (e ∷ filter (is_found q) (cut (root_of ancestor) es)) (filter (is_found q) (cut (root_of ancestor) es))) found
        ∙ ap (λ fs. e ∷ fs) later
    by later true own false found =
        ap (λ c. cond c (e ∷ filter (is_found q) (cut (root_of ancestor) es)) (filter (is_found q) (cut (root_of ancestor) es))) found
        ∙ later
    by later false other true found =
        absurd (apart (sym other ∙ ap (λ g. same_key g (root_of ancestor)) (found_under q e has found) ∙ same_key-itself
        (root_of ancestor)))
    by later false other false found = later

  rows_cut : (q : Branch) (es : List EntityParts) → q.ancestor ≡ Some ancestor → rows q (cut (root_of ancestor) es) ≡ rows q es
  rows_cut q es has =
      ap (λ fs. filter (λ row. is_within q.range (first_value row)) (flat_map (entity_rows q.columns) fs)) (found_cut q es has)

  branches_cut : (start end : Option Place) (qs : List Branch) (es : List EntityParts) → HaveAncestor ancestor qs
      → flat_map (λ q. branch_results q start end (cut (root_of ancestor) es)) qs ≡ flat_map (λ q. branch_results q start end es) qs
  branches_cut start end [] es has = refl
  branches_cut start end (q ∷ qs) es has =
      ap (λ rs. first_rows q.columns (projected q.select) (filter (is_between q.columns start end) rs)
      ++ flat_map (λ p. branch_results p start end (cut (root_of ancestor) es)) qs) (rows_cut q es has.0)
      ∙ ap (λ rs. branch_results q start end es ++ rs) (branches_cut start end qs es has.1)

  united_cut : (merged : List Column) (qs : List Branch) (es : List EntityParts) → HaveAncestor ancestor qs
      → flat_map (λ q. map (extended merged q) (rows q (cut (root_of ancestor) es))) qs
      ≡ flat_map (λ q. map (extended merged q) (rows q es)) qs
  united_cut merged [] es has = refl
  united_cut merged (q ∷ qs) es has =
      ap (λ rs. map (extended merged q) rs ++ flat_map (λ p. map (extended merged p) (rows p (cut (root_of ancestor) es))) qs)
      (rows_cut q es has.0)
      ∙ ap (λ rs. map (extended merged q) (rows q es) ++ rs) (united_cut merged qs es has.1)

  -- a query has the same results over the entities of the group alone
  pub result_cut : (n : Normal) (w : Window) (es : List EntityParts) → HaveAncestor ancestor n.branches
      → result n w (cut (root_of ancestor) es) ≡ result n w es
  result_cut n w es has =
      ap (page_of n.merged w)
      (ap (λ rs. cond n.several (first_rows n.merged [] rs)
      (flat_map (λ q. branch_results q w.start w.end (cut (root_of ancestor) es)) n.branches))
      (united_cut n.merged n.branches es has)
      ∙ ap (λ rs. cond n.several (first_rows n.merged [] (united n es)) rs) (branches_cut w.start w.end n.branches es has))

  -- ---- each row is one of the group

  entities_in : (q : Branch) (es : List EntityParts) → q.ancestor ≡ Some ancestor
      → AllByRecursion (λ (e : EntityParts). InGroup e.key) (filter (is_found q) es)
  entities_in q [] has = tt
  entities_in q (e ∷ es) has = by (entities_in q es has) (is_found q e) refl where
    by : AllByRecursion (λ (f : EntityParts). InGroup f.key) (filter (is_found q) es) → (b : Bool) → is_found q e ≡ b
        → AllByRecursion (λ (f : EntityParts). InGroup f.key) (cond b (e ∷ filter (is_found q) es) (filter (is_found q) es))
    by rest true found = (found_under q e has found, rest)
    by rest false found = rest

  of_entities : (columns : List Column) (es : List EntityParts) → AllByRecursion (λ (e : EntityParts). InGroup e.key) es
      → AllByRecursion (λ e. AllByRecursion RowIn (entity_rows columns e)) es
  of_entities columns [] p = tt
  of_entities columns (e ∷ es) p = (
    all-map (λ way. InGroup e.key) RowIn (λ vs. record { values = vs; key = e.key }) (λ way is. is)
        (each_way (map (λ c. indexed_values e c.name) (value_columns columns)))
        (all_of (λ way. InGroup e.key) (λ way. p.0) (each_way (map (λ c. indexed_values e c.name) (value_columns columns)))),
    of_entities columns es p.1,
  )

  rows_in : (q : Branch) (es : List EntityParts) → q.ancestor ≡ Some ancestor → AllByRecursion RowIn (rows q es)
  rows_in q es has =
      all-filter RowIn (λ row. is_within q.range (first_value row)) (flat_map (entity_rows q.columns) (filter (is_found q) es))
      (all-flat_map RowIn (entity_rows q.columns) (filter (is_found q) es)
      (of_entities q.columns (filter (is_found q) es) (entities_in q es has)))

  kept_in : (same : RowParts → RowParts → Bool) (kept rs : List RowParts) → AllByRecursion RowIn kept → AllByRecursion RowIn rs
      → AllByRecursion RowIn (fold (λ kept x. cond (list_any (same x) kept) kept (kept ++ x ∷ [])) kept rs)
  kept_in same kept [] p q = p
  kept_in same kept (r ∷ rs) p q =
      kept_in same (cond (list_any (same r) kept) kept (kept ++ r ∷ [])) rs (by (list_any (same r) kept)) q.1 where
        by : (b : Bool) → AllByRecursion RowIn (cond b kept (kept ++ r ∷ []))
        by true = p
        by false = all-append RowIn kept (r ∷ []) p (q.0, tt)

  firsts_in : (columns : List Column) (names : List (List ℕ)) (rs : List RowParts) → AllByRecursion RowIn rs
      → AllByRecursion RowIn (first_rows columns names rs)
  firsts_in columns names rs p =
      kept_in (same_mark columns names) [] (sorted_by (compare_rows columns) rs) tt (all-sorted RowIn (compare_rows columns) rs p)

  branches_in : (start end : Option Place) (qs : List Branch) (es : List EntityParts) → HaveAncestor ancestor qs
      → AllByRecursion RowIn (flat_map (λ q. branch_results q start end es) qs)
  branches_in start end [] es has = tt
  branches_in start end (q ∷ qs) es has =
      all-append RowIn (branch_results q start end es) (flat_map (λ p. branch_results p start end es) qs)
      (firsts_in q.columns (projected q.select) (filter (is_between q.columns start end) (rows q es))
      (all-filter RowIn (is_between q.columns start end) (rows q es) (rows_in q es has.0)))
      (branches_in start end qs es has.1)

  united_in : (merged : List Column) (qs : List Branch) (es : List EntityParts) → HaveAncestor ancestor qs
      → AllByRecursion RowIn (flat_map (λ q. map (extended merged q) (rows q es)) qs)
  united_in merged [] es has = tt
  united_in merged (q ∷ qs) es has =
      all-append RowIn (map (extended merged q) (rows q es)) (flat_map (λ p. map (extended merged p) (rows p es)) qs)
      (all-map RowIn RowIn (extended merged q) (λ row is. is) (rows q es) (rows_in q es has.0))
      (united_in merged qs es has.1)

  taken_in : (n : ℕ) (rs : List RowParts) → AllByRecursion RowIn rs → AllByRecursion RowIn (take n rs)
  taken_in zero rs p = tt
  taken_in (suc n) [] p = tt
  taken_in (suc n) (r ∷ rs) p = (p.0, taken_in n rs p.1)

  left_in : (n : ℕ) (rs : List RowParts) → AllByRecursion RowIn rs → AllByRecursion RowIn (drop n rs)
  left_in zero rs p = p
  left_in (suc n) [] p = tt
  left_in (suc n) (r ∷ rs) p = left_in n rs p.1

  limited_in : (limit : Option ℕ) (rs : List RowParts) → AllByRecursion RowIn rs → AllByRecursion RowIn (at_most limit rs)
  limited_in None rs p = p
  limited_in (Some n) rs p = taken_in n rs p

  -- each row of the results is of a key of the group
  pub result_in : (n : Normal) (w : Window) (es : List EntityParts) → HaveAncestor ancestor n.branches
      → AllByRecursion (λ (r : RowParts). root_of r.key ≡ root_of ancestor) (result n w es).rows
  result_in n w es has = limited_in w.limit (drop w.offset (query_rows n w es)) (left_in w.offset (query_rows n w es) (by n.several)) where
    by : (several : Bool)
        → AllByRecursion RowIn (cond several (first_rows n.merged [] (united n es))
        (flat_map (λ q. branch_results q w.start w.end es) n.branches))
    by true = firsts_in n.merged [] (united n es) (united_in n.merged n.branches es has)
    by false = branches_in w.start w.end n.branches es has

-- ---- what is told of rows of a group

module _ (g : KeyParts) (es fs : List EntityParts) (same : cut g es ≡ cut g fs) where
  found_same : (k : KeyParts) → root_of k ≡ g → entity_of es k ≡ entity_of fs k
  found_same k own =
      found_in_group k es ∙ ap (λ h. entity_of (cut h es) k) own ∙ ap (λ ds. entity_of ds k) same
      ∙ ap (λ h. entity_of (cut h fs) k) (sym own) ∙ sym (found_in_group k fs)

  item_same : (columns : List Column) (selected : Select) (row : RowParts) → root_of row.key ≡ g
      → item_of columns selected es row ≡ item_of columns selected fs row
  item_same columns select.Entities row own = ap (λ o. record { key = row.key; entity = o; projected = [] }) (found_same row.key own)
  item_same columns select.Keys row own = refl
  item_same columns (select.Projection names) row own = refl

  pub items_same : (columns : List Column) (selected : Select) (rs : List RowParts)
      → AllByRecursion (λ (r : RowParts). root_of r.key ≡ g) rs
      → items_of columns selected es rs ≡ items_of columns selected fs rs
  items_same columns selected [] own = refl
  items_same columns selected (r ∷ rs) own =
      ap (λ item. item ∷ items_of columns selected es rs) (item_same columns selected r own.0)
      ∙ ap (λ items. item_of columns selected fs r ∷ items) (items_same columns selected rs own.1)

-- ---- strong queries

-- at a count of the shard's entries that are those of the first m commits; the shard's list may be longer than the journal's own part
module _ (journal : List Commit) (entries : List Entry) (count m shards : ℕ) (ancestor : KeyParts)
    (first : take count entries ≡ shard_list (take m journal) (shard_of (root_of ancestor) shards) shards)
    (some : 1 ≤ length ancestor.elems) where
  own : List Entry
  own = shard_list (take m journal) (shard_of (root_of ancestor) shards) shards

  seen_is : left_by entries count ≡ sorted_by_key (after (entry_writes own))
  unfolding own
  seen_is = ap (λ (es : List Entry). sorted_by_key (after (entry_writes es))) first

  group_is : cut (root_of ancestor) (after (entry_writes own)) ≡ cut (root_of ancestor) (strong_view journal m)
  unfolding own
  group_is = group_seen journal m shards (root_of ancestor)

  -- A query with an ancestor has the results that it has over the strong view.
  pub ancestor_result : (n : Normal) (w : Window) → HaveAncestor ancestor n.branches
      → result n w (left_by entries count) ≡ result n w (strong_view journal m)
  ancestor_result n w has =
      ap (result n w) seen_is
      ∙ result_sorted n w (after (entry_writes own))
      ∙ sym (result_cut ancestor some n w (after (entry_writes own)) has)
      ∙ ap (result n w) group_is
      ∙ result_cut ancestor some n w (strong_view journal m) has

  -- And the same is told of its rows.
  pub ancestor_items : (n : Normal) (w : Window) (columns : List Column) (selected : Select) → HaveAncestor ancestor n.branches
      → items_of columns selected (left_by entries count) (result n w (strong_view journal m)).rows
      ≡ items_of columns selected (strong_view journal m) (result n w (strong_view journal m)).rows
  ancestor_items n w columns selected has =
      let rs : List RowParts = (result n w (strong_view journal m)).rows in
      ap (λ es. items_of columns selected es rs) seen_is
      ∙ items_sorted columns selected (after (entry_writes own)) rs (KeysDiffer-after (entry_writes own))
      ∙ items_same (root_of ancestor) (after (entry_writes own)) (strong_view journal m) group_is columns selected rs
      (result_in ancestor some n w (strong_view journal m) has)
