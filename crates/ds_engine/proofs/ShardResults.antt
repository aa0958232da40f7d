-- A query of one branch over shards: the first results of each shard tell the first results of all.
use Rattle.std.proofs.Common.{◌≡◌, ℕ, ◌+◌, List, [], ◌∷◌, ◌++◌, map, drop, take, refl, sym, ap, ◌∙◌}
use Rattle.std.proofs.Common.{Bool, true, false, Option, Some, None}
use Rattle.std.specs.Prelude.{filter, flat_map}
use Rattle.std.specs.Cmp.{IsEquivalence, equiv}
use Rattle.std.specs.Cmp.Lexicographic.{pointwise_decides}
use Rattle.std.specs.List.{AllByRecursion}
use Rattle.std.specs.declared.cmp.Ordering.{Ordering}
use Rattle.std.proofs.lemmas.Bool.{and_parts, and_from}
use Rattle.std.proofs.lemmas.Grind.{flat_map-append}
use Rattle.std.proofs.lemmas.List.Elements.{filter-append}
use Rattle.ds_base.specs.declared.column.Column.{Column}
use Rattle.ds_base.specs.Keys.{KeyParts}
use Rattle.ds_base.specs.KeyOrder.{same_key}
use Rattle.ds_base.specs.KeyOrderLaws.{same_key-decides}
use Rattle.ds_base.specs.IndexOrderLaws.{same_index_value-decides}
use Rattle.ds_entity.specs.Entities.{EntityParts}
use Rattle.ds_base.specs.Sorting.{sorted_by}
use Rattle.ds_bytes.specs.Rows.{RowParts}
use Rattle.ds_query.specs.declared.branch.Branch.{Branch}
use Rattle.ds_query.specs.declared.branch.Window.{Window}
use Rattle.ds_query.specs.declared.row.Place.{Place}
use Rattle.ds_query.specs.Filters.{projected}
use Rattle.ds_rows.specs.IndexedValues.{indexed_values, each_way}
use Rattle.ds_pages.specs.Columns.{projected_values, value_columns}
use Rattle.ds_pages.specs.Pages.{at_most, plus_limit, first_rows, same_mark, is_between, last_place, page_of, page_of_rows}
use Rattle.ds_pages.specs.Pages.{with_places}
use Rattle.ds_pages.specs.Places.{compare_rows}
use Rattle.ds_pages.proofs.PageLaws.{drop-seen}
use Rattle.ds_model.specs.Bounds.{given}
use Rattle.ds_model.specs.Results.{branch_results}
use Rattle.ds_model.specs.Rows.{rows, entity_rows, is_found, is_within, first_value}
use Rattle.ds_model.proofs.AllOf.{all_of, all-append, all-filter, all-map, all-flat_map, all-sorted}
use Rattle.ds_model.proofs.ResultOrder.{long_branch}
use Rattle.ds_model.proofs.RowOrder.{IsLongRow, full_row_cmp, full_row-total, full_row-same, sorted-full}
use Rattle.ds_engine.proofs.Apart.{Apart, apart_firsts, apart_parts, apart_sorted, apart_taken}
use Rattle.ds_engine.proofs.PartFirsts.{firsts, AreParts, kept_all, taken_all, first_of_parts}
use Rattle.ds_engine.proofs.UnitedFirsts.{all_firsts}

-- ---- what makes two rows one result

module _ (columns : List Column) (names : List (List ℕ)) where
  pub mark_parts : (x y : RowParts) → same_mark columns names x y ≡ true
      → (x.key ≡ y.key) × (projected_values columns names x ≡ projected_values columns names y)
  mark_parts x y e =
      let both = and_parts (same_key x.key y.key) _ e in (
        (same_key-decides x.key y.key).0 both.0,
        (pointwise_decides same_index_value-decides (projected_values columns names x) (projected_values columns names y)).0 both.1,
      )

  pub mark_from : (x y : RowParts) → x.key ≡ y.key → projected_values columns names x ≡ projected_values columns names y
      → same_mark columns names x y ≡ true
  mark_from x y key values =
      and_from (same_key x.key y.key) _ ((same_key-decides x.key y.key).1 key)
      ((pointwise_decides same_index_value-decides (projected_values columns names x) (projected_values columns names y)).1 values)

  pub mark_itself : (x : RowParts) → same_mark columns names x x ≡ true
  mark_itself x = mark_from x x refl refl

  pub mark_along : (x y z : RowParts) → same_mark columns names x y ≡ true → same_mark columns names y z ≡ true
      → same_mark columns names x z ≡ true
  mark_along x y z a b =
      let first = mark_parts x y a in
      let second = mark_parts y z b in
      mark_from x z (first.0 ∙ second.0) (first.1 ∙ second.1)

  flip : (x y : RowParts) → same_mark columns names x y ≡ same_mark columns names y x
  flip x y = by (same_mark columns names x y) (same_mark columns names y x) (turned x y) (turned y x) where
    turned : (x y : RowParts) → same_mark columns names x y ≡ true → same_mark columns names y x ≡ true
    turned x y e =
        let both = mark_parts x y e in
        mark_from y x (sym both.0) (sym both.1)

    by : (a b : Bool) → (a ≡ true → b ≡ true) → (b ≡ true → a ≡ true) → a ≡ b
    by true b to back = sym (to refl)
    by false true to back = back refl
    by false false to back = refl

  pub mark_laws : IsEquivalence (same_mark columns names)
  mark_laws = equiv (record { symm = flip; trans = mark_along }) mark_itself

-- ---- the rows of entities

abbrev pub all_of_shards : List (List EntityParts) → List EntityParts
all_of_shards = flat_map (λ es. es)

pub rows-append : (q : Branch) (es fs : List EntityParts) → rows q (es ++ fs) ≡ rows q es ++ rows q fs
rows-append q es fs =
    ap (λ ds. filter (λ row. is_within q.range (first_value row)) (flat_map (entity_rows q.columns) ds)) (filter-append (is_found q) es fs)
    ∙ ap (filter (λ row. is_within q.range (first_value row)))
    (flat_map-append (entity_rows q.columns) (filter (is_found q) es) (filter (is_found q) fs))
    ∙ filter-append (λ row. is_within q.range (first_value row)) (flat_map (entity_rows q.columns) (filter (is_found q) es))
    (flat_map (entity_rows q.columns) (filter (is_found q) fs))

-- what holds of the entities' keys holds of their rows'
module _ (P : KeyParts → Type 0) (columns : List Column) where
  of_entity : (e : EntityParts) → P e.key → AllByRecursion (λ (r : RowParts). P r.key) (entity_rows columns e)
  of_entity e p =
      all-map (λ way. P e.key) (λ (r : RowParts). P r.key) (λ vs. record { values = vs; key = e.key }) (λ way is. is)
      (each_way (map (λ c. indexed_values e c.name) (value_columns columns)))
      (all_of (λ way. P e.key) (λ way. p) (each_way (map (λ c. indexed_values e c.name) (value_columns columns))))

  of_entities : (es : List EntityParts) → AllByRecursion (λ (e : EntityParts). P e.key) es
      → AllByRecursion (λ e. AllByRecursion (λ (r : RowParts). P r.key) (entity_rows columns e)) es
  of_entities [] all = tt
  of_entities (e ∷ es) all = (of_entity e all.0, of_entities es all.1)

pub rows_of_keys : (P : KeyParts → Type 0) (q : Branch) (es : List EntityParts) → AllByRecursion (λ (e : EntityParts). P e.key) es
    → AllByRecursion (λ (r : RowParts). P r.key) (rows q es)
rows_of_keys P q es all =
    all-filter (λ (r : RowParts). P r.key) (λ row. is_within q.range (first_value row))
    (flat_map (entity_rows q.columns) (filter (is_found q) es))
    (all-flat_map (λ (r : RowParts). P r.key) (entity_rows q.columns) (filter (is_found q) es)
    (of_entities P q.columns (filter (is_found q) es) (all-filter (λ (e : EntityParts). P e.key) (is_found q) es all)))

-- the entities of each list have its number as their shard, from a first one on
abbrev pub AreOfShards : (KeyParts → ℕ) → ℕ → List (List EntityParts) → Type 0
AreOfShards shard = AreParts (λ (e : EntityParts). shard e.key)

module _ (q : Branch) (start end : Option Place) where
  abbrev found : List EntityParts → List RowParts
  found es = filter (is_between q.columns start end) (rows q es)

  abbrev same : RowParts → RowParts → Bool
  same = same_mark q.columns (projected q.select)

  abbrev order : RowParts → RowParts → Ordering
  order = full_row_cmp q.columns

  found-all : (shards : List (List EntityParts)) → found (all_of_shards shards) ≡ flat_map (λ rs. rs) (map found shards)
  found-all [] = refl
  found-all (es ∷ shards) =
      ap (filter (is_between q.columns start end)) (rows-append q es (all_of_shards shards))
      ∙ filter-append (is_between q.columns start end) (rows q es) (rows q (all_of_shards shards))
      ∙ ap (λ rs. found es ++ rs) (found-all shards)

  found_long : (es : List EntityParts) → AllByRecursion (IsLongRow q.columns) (found es)
  found_long es = all-filter (IsLongRow q.columns) (is_between q.columns start end) (rows q es) (long_branch q es)

  -- the results, by the order in which only equal rows tie
  results-as : (es : List EntityParts) → branch_results q start end es ≡ firsts same [] (sorted_by order (found es))
  results-as es = ap (firsts same []) (sorted-full q.columns (found es) (found_long es))

  results_long : (es : List EntityParts) → AllByRecursion (IsLongRow q.columns) (branch_results q start end es)
  results_long es =
      kept_all same (IsLongRow q.columns) []
      (sorted_by (compare_rows q.columns) (found es)) tt
      (all-sorted (IsLongRow q.columns) (compare_rows q.columns) (found es) (found_long es))

  given_long : (most : Option ℕ) (es : List EntityParts) → AllByRecursion (IsLongRow q.columns) (given q start end most es)
  given_long None es = results_long es
  given_long (Some n) es = taken_all (IsLongRow q.columns) n (branch_results q start end es) (results_long es)

  all_given_long : (most : Option ℕ) (shards : List (List EntityParts))
      → AllByRecursion (IsLongRow q.columns) (flat_map (given q start end most) shards)
  all_given_long most [] = tt
  all_given_long most (es ∷ shards) =
      all-append (IsLongRow q.columns) (given q start end most es) (flat_map (given q start end most) shards) (given_long most es)
      (all_given_long most shards)

  module _ (shard : KeyParts → ℕ) where
    parts_of_shards : (first : ℕ) (shards : List (List EntityParts)) → AreOfShards shard first shards
        → AreParts (λ (r : RowParts). shard r.key) first (map found shards)
    parts_of_shards first [] are = tt
    parts_of_shards first (es ∷ shards) are = (
      all-filter (λ (r : RowParts). shard r.key ≡ first) (is_between q.columns start end) (rows q es)
          (rows_of_keys (λ k. shard k ≡ first) q es are.0),
      parts_of_shards (first + 1) shards are.1,
    )

    cut_each : (n : ℕ) (shards : List (List EntityParts))
        → flat_map (λ rs. rs) (map (λ rs. take n (firsts same [] (sorted_by order rs))) (map found shards))
        ≡ flat_map (given q start end (Some n)) shards
    cut_each n [] = refl
    cut_each n (es ∷ shards) = λ i. take n (sym (results-as es) i) ++ cut_each n shards i

    first_each : (shards : List (List EntityParts))
        → flat_map (λ rs. firsts same [] (sorted_by order rs)) (map found shards) ≡ flat_map (given q start end None) shards
    first_each [] = refl
    first_each (es ∷ shards) = λ i. sym (results-as es) i ++ first_each shards i

    -- Of a branch's results over the entities of all shards the first `most` are the first of those that the shards give, of each as many.
    pub shards_give : (most : Option ℕ) (shards : List (List EntityParts)) → AreOfShards shard 0 shards
        → given q start end most (all_of_shards shards)
        ≡ at_most most (first_rows q.columns (projected q.select) (flat_map (given q start end most) shards))
    shards_give (Some n) shards are =
        ap (take n) (results-as (all_of_shards shards))
        ∙ ap (λ rs. take n (firsts same [] (sorted_by order rs))) (found-all shards)
        ∙ first_of_parts same (λ (r : RowParts). shard r.key) n
        (λ x y e. ap shard (mark_parts q.columns (projected q.select) x y e).0)
        (full_row-total q.columns) (full_row-same q.columns) (map found shards) (parts_of_shards 0 shards are)
        ∙ ap (λ rs. take n (firsts same [] (sorted_by order rs))) (cut_each n shards)
        ∙ ap (λ rs. take n (firsts same [] rs))
        (sym (sorted-full q.columns (flat_map (given q start end (Some n)) shards) (all_given_long (Some n) shards)))
    shards_give None shards are =
        results-as (all_of_shards shards)
        ∙ ap (λ rs. firsts same [] (sorted_by order rs)) (found-all shards)
        ∙ all_firsts same (mark_itself q.columns (projected q.select)) (mark_along q.columns (projected q.select))
        (full_row-total q.columns) (full_row-same q.columns) (λ rs. rs) (map found shards)
        ∙ ap (λ rs. firsts same [] (sorted_by order rs)) (first_each shards)
        ∙ ap (firsts same [])
        (sym (sorted-full q.columns (flat_map (given q start end None) shards) (all_given_long None shards)))

    -- what a shard gives is of its groups
    own_given : (most : Option ℕ) (k : ℕ) (es : List EntityParts) → AllByRecursion (λ (e : EntityParts). shard e.key ≡ k) es
        → AllByRecursion (λ (r : RowParts). shard r.key ≡ k) (given q start end most es)
    own_given most k es own = by most where
      all : AllByRecursion (λ (r : RowParts). shard r.key ≡ k) (branch_results q start end es)
      all =
          kept_all same (λ (r : RowParts). shard r.key ≡ k) [] (sorted_by (compare_rows q.columns) (found es)) tt
          (all-sorted (λ (r : RowParts). shard r.key ≡ k) (compare_rows q.columns) (found es)
          (all-filter (λ (r : RowParts). shard r.key ≡ k) (is_between q.columns start end) (rows q es)
          (rows_of_keys (λ g. shard g ≡ k) q es own)))

      by : (m : Option ℕ) → AllByRecursion (λ (r : RowParts). shard r.key ≡ k) (given q start end m es)
      by None = all
      by (Some n) = taken_all (λ (r : RowParts). shard r.key ≡ k) n (branch_results q start end es) all

    given_parts : (most : Option ℕ) (first : ℕ) (shards : List (List EntityParts)) → AreOfShards shard first shards
        → AreParts (λ (r : RowParts). shard r.key) first (map (given q start end most) shards)
    given_parts most first [] are = tt
    given_parts most first (es ∷ shards) are = (own_given most first es are.0, given_parts most (first + 1) shards are.1)

    results_apart : (es : List EntityParts) → Apart same (branch_results q start end es)
    results_apart es = apart_firsts same [] (sorted_by (compare_rows q.columns) (found es)) tt

    given_apart : (most : Option ℕ) (es : List EntityParts) → Apart same (given q start end most es)
    given_apart None es = results_apart es
    given_apart (Some n) es = apart_taken same n (branch_results q start end es) (results_apart es)

    -- No result comes from two shards, and none twice from one: those of all shards, in order, are the first of their marks.
    pub shards_apart : (most : Option ℕ) (shards : List (List EntityParts)) → AreOfShards shard 0 shards
        → first_rows q.columns (projected q.select) (flat_map (given q start end most) shards)
        ≡ sorted_by (compare_rows q.columns) (flat_map (given q start end most) shards)
    shards_apart most shards are =
        apart_sorted same (mark_laws q.columns (projected q.select)).symm (compare_rows q.columns) (flat_map (given q start end most) shards)
        (apart_parts same (given q start end most) (λ (r : RowParts). shard r.key)
        (λ x y e. ap shard (mark_parts q.columns (projected q.select) x y e).0) (given_apart most) 0 shards
        (given_parts most 0 shards are))

-- ---- pages

-- a page is told by the results that are skipped or taken
pub page-seen : (columns : List Column) (w : Window) (xs ys : List RowParts)
    → at_most (plus_limit w.offset w.limit) xs ≡ at_most (plus_limit w.offset w.limit) ys → page_of columns w xs ≡ page_of columns w ys
page-seen columns w xs ys e = λ i. record {
  rows = (sym (drop-seen w.offset w.limit xs) ∙ ap (drop w.offset) e ∙ drop-seen w.offset w.limit ys) i;
  next = last_place columns w.start (e i);
}

-- The page of the first results of the shards, of each as many as are skipped and taken, is the page over the entities of all shards.
pub shards_page : (q : Branch) (w : Window) (shard : KeyParts → ℕ) (shards : List (List EntityParts)) → AreOfShards shard 0 shards
    → page_of_rows q.columns (projected q.select) w (flat_map (given q w.start w.end (plus_limit w.offset w.limit)) shards)
    ≡ with_places q.columns (page_of q.columns w (branch_results q w.start w.end (all_of_shards shards)))
shards_page q w shard shards are =
    ap (with_places q.columns)
    (page-seen q.columns w
    (first_rows q.columns (projected q.select) (flat_map (given q w.start w.end (plus_limit w.offset w.limit)) shards))
    (branch_results q w.start w.end (all_of_shards shards))
    (sym (shards_give q w.start w.end shard (plus_limit w.offset w.limit) shards are)))
