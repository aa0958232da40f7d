-- A query of several branches over shards: the first rows of each branch and shard, put into the merged columns, tell the first row of
-- each key; and where no values are projected as many of them as are asked for, by as many rows of each branch and shard.
use Rattle.std.proofs.Common.{◌≡◌, ℕ, List, [], ◌∷◌, ◌++◌, map, fold, take, refl, sym, ap, ◌∙◌, true, cond, not, Option, Some, None}
use Rattle.std.specs.Prelude.{All, filter, flat_map}
use Rattle.std.specs.List.{AllByRecursion}
use Rattle.std.specs.Ordering.{match_ordering}
use Rattle.std.specs.declared.cmp.Ordering.{Ordering}
use Rattle.std.specs.declared.cmp.Ordering.TheVariants.{Less, Equal, Greater}
use Rattle.std.proofs.lemmas.List.{map-append, take-map}
use Rattle.std.proofs.lemmas.List.Elements.{All-head, All-tail}
use Rattle.ds_base.specs.declared.column.Column.{Column}
use Rattle.ds_entity.specs.Entities.{EntityParts}
use Rattle.ds_base.specs.Sorting.{insert_by, sorted_by}
use Rattle.ds_bytes.specs.Rows.{RowParts}
use Rattle.ds_query.specs.declared.branch.Branch.{Branch}
use Rattle.ds_query.specs.declared.branch.Normal.{Normal}
use Rattle.ds_query.specs.declared.branch.Window.{Window}
use Rattle.ds_query.specs.Filters.{projected}
use Rattle.ds_query.specs.Lawful.{IsLawfulBranch, IsLawfulNormal, has_pair, names_differ}
use Rattle.ds_pages.specs.Extended.{extended}
use Rattle.ds_pages.specs.Pages.{at_most, first_rows, is_between, page_of, page_of_rows, same_mark, with_places}
use Rattle.ds_pages.specs.Places.{compare_rows}
use Rattle.ds_pages.proofs.FirstLaws.{first_of_each-map}
use Rattle.ds_model.specs.Results.{branch_results, result, united}
use Rattle.ds_model.specs.Rows.{rows}
use Rattle.ds_model.proofs.AllOf.{all-insert, all-filter, all-flat_map, all_of, all-sorted}
use Rattle.ds_model.proofs.ResultOrder.{long_branch, long_extended}
use Rattle.ds_model.proofs.RowOrder.{IsLongRow, full_row_cmp, full_row-total, full_row-same, sorted-full}
use Rattle.ds_engine.proofs.MergedOrder.{extended-cmp}
use Rattle.ds_engine.proofs.PartFirsts.{firsts, kept_all}
use Rattle.ds_engine.proofs.ShardResults.{all_of_shards, mark_along, mark_from, mark_itself, mark_laws, mark_parts, rows-append}
use Rattle.ds_engine.proofs.UnitedFirsts.{alone_fine, few_again, first_few, first_items, parts_few, parts_same}

-- ---- sorting through a function that keeps the order

module _ {X Y : Type 0} (f : X → Y) (A : X → X → Ordering) (B : Y → Y → Ordering) (P : X → Type 0)
    (alike : (x y : X) → P x → P y → B (f x) (f y) ≡ A x y) where
  inserted-map : (ys : List X) (x : X) → P x → AllByRecursion P ys → map f (insert_by A ys x) ≡ insert_by B (map f ys) (f x)
  inserted-map [] x p q = refl
  inserted-map (y ∷ ys) x p q =
      by (A x y) (inserted-map ys x p q.1)
      ∙ ap (λ r. match_ordering r (f x ∷ f y ∷ map f ys) (f x ∷ f y ∷ map f ys) (f y ∷ insert_by B (map f ys) (f x)))
      (sym (alike x y p q.0))
    where
      by : (r : Ordering) → map f (insert_by A ys x) ≡ insert_by B (map f ys) (f x)
          → map f (match_ordering r (x ∷ y ∷ ys) (x ∷ y ∷ ys) (y ∷ insert_by A ys x))
          ≡ match_ordering r (f x ∷ f y ∷ map f ys) (f x ∷ f y ∷ map f ys) (f y ∷ insert_by B (map f ys) (f x))
      by Less rest = refl
      by Equal rest = refl
      by Greater rest = ap (λ zs. f y ∷ zs) rest

  folded-map : (done xs : List X) → AllByRecursion P done → AllByRecursion P xs
      → map f (fold (insert_by A) done xs) ≡ fold (insert_by B) (map f done) (map f xs)
  folded-map done [] p q = refl
  folded-map done (x ∷ xs) p q =
      folded-map (insert_by A done x) xs (all-insert P A done x q.0 p) q.1
      ∙ ap (λ d. fold (insert_by B) d (map f xs)) (inserted-map done x q.0 p)

  sorted-map : (xs : List X) → AllByRecursion P xs → map f (sorted_by A xs) ≡ sorted_by B (map f xs)
  sorted-map xs q = folded-map [] xs tt q

long_of : (merged : List Column) (q : Branch) (rs : List RowParts) → AllByRecursion (IsLongRow merged) (map (extended merged q) rs)
long_of merged q [] = tt
long_of merged q (r ∷ rs) = (long_extended merged q r, long_of merged q rs)

-- ---- one branch

module _ (merged : List Column) (q : Branch) (lawful : IsLawfulBranch q)
    (own_columns : filter (λ (c : Column). not (has_pair q.equal c.name)) merged ≡ q.columns)
    (differ : names_differ merged ≡ true) where
  abbrev put : List RowParts → List RowParts
  put = map (extended merged q)

  abbrev in_merged : List RowParts → List RowParts
  in_merged =
      first_items (same_mark merged []) (mark_itself merged []) (mark_along merged []) (full_row-total merged) (full_row-same merged)

  abbrev in_own : List RowParts → List RowParts
  in_own =
      first_items (same_mark q.columns []) (mark_itself q.columns []) (mark_along q.columns []) (full_row-total q.columns)
      (full_row-same q.columns)

  -- the first of each key in the merged columns are those in the branch's own
  firsts-put : (rs : List RowParts) → AllByRecursion (IsLongRow q.columns) rs → in_merged (put rs) ≡ put (in_own rs)
  firsts-put rs long =
      ap (firsts (same_mark merged []) [])
      (sym (sorted-full merged (put rs) (long_of merged q rs))
      ∙ sym (sorted-map (extended merged q) (compare_rows q.columns) (compare_rows merged) (IsLongRow q.columns)
      (extended-cmp merged q own_columns differ lawful.no_key_pair) rs long))
      ∙ first_of_each-map (extended merged q) (same_mark merged []) (same_mark q.columns []) (λ x y. refl)
      (sorted_by (compare_rows q.columns) rs)
      ∙ ap (λ zs. put (firsts (same_mark q.columns []) [] zs)) (sorted-full q.columns rs long)

  all_between : (rs : List RowParts) → filter (is_between q.columns None None) rs ≡ rs
  all_between [] = refl
  all_between (r ∷ rs) = ap (λ zs. r ∷ zs) (all_between rs)

  results_are : (es : List EntityParts)
      → branch_results q None None es
      ≡ firsts (same_mark q.columns (projected q.select)) [] (sorted_by (full_row_cmp q.columns) (rows q es))
  results_are es =
      ap (firsts (same_mark q.columns (projected q.select)) [])
      (ap (sorted_by (compare_rows q.columns)) (all_between (rows q es)) ∙ sorted-full q.columns (rows q es) (long_branch q es))

  results_long : (es : List EntityParts) → AllByRecursion (IsLongRow q.columns) (branch_results q None None es)
  results_long es =
      kept_all (same_mark q.columns (projected q.select)) (IsLongRow q.columns) []
      (sorted_by (compare_rows q.columns) (filter (is_between q.columns None None) (rows q es))) tt
      (all-sorted (IsLongRow q.columns) (compare_rows q.columns) (filter (is_between q.columns None None) (rows q es))
      (all-filter (IsLongRow q.columns) (is_between q.columns None None) (rows q es) (long_branch q es)))

  -- the branch's results stand for its rows
  results-stand : (es : List EntityParts) → in_merged (put (branch_results q None None es)) ≡ in_merged (put (rows q es))
  results-stand es =
      firsts-put (branch_results q None None es) (results_long es)
      ∙ ap (λ zs. put (in_own zs)) (results_are es)
      ∙ ap put (sym (alone_fine (same_mark q.columns []) (mark_itself q.columns []) (mark_along q.columns []) (full_row-total q.columns)
      (full_row-same q.columns) (same_mark q.columns (projected q.select))
      (λ x y e. mark_from q.columns [] x y (mark_parts q.columns (projected q.select) x y e).0 refl) (rows q es)))
      ∙ sym (firsts-put (rows q es) (long_branch q es))

  put-all : (shards : List (List EntityParts)) → put (rows q (all_of_shards shards)) ≡ flat_map (λ es. put (rows q es)) shards
  put-all [] = refl
  put-all (es ∷ shards) =
      ap put (rows-append q es (all_of_shards shards))
      ∙ map-append (extended merged q) (rows q es) (rows q (all_of_shards shards))
      ∙ ap (λ zs. put (rows q es) ++ zs) (put-all shards)

  of_branch : (shards : List (List EntityParts))
      → in_merged (flat_map (λ es. put (branch_results q None None es)) shards) ≡ in_merged (put (rows q (all_of_shards shards)))
  of_branch shards =
      parts_same (same_mark merged []) (mark_itself merged []) (mark_along merged []) (full_row-total merged) (full_row-same merged)
      (λ es. put (branch_results q None None es)) (λ es. put (rows q es)) shards
      (all_of (λ es. in_merged (put (branch_results q None None es)) ≡ in_merged (put (rows q es))) results-stand shards)
      ∙ ap in_merged (sym (put-all shards))

  -- ---- as many as are asked for, where no values are projected

  abbrev few : ℕ → List RowParts → List RowParts
  few =
      first_few (same_mark merged []) (mark_itself merged []) (mark_along merged []) (full_row-total merged) (full_row-same merged)
      (mark_laws merged [])

  -- a branch's results are the first of each key in the merged columns
  results_first : (es : List EntityParts) → projected q.select ≡ [] → put (branch_results q None None es) ≡ in_merged (put (rows q es))
  results_first es none =
      ap put (results_are es)
      ∙ ap (λ names. put (firsts (same_mark q.columns names) [] (sorted_by (full_row_cmp q.columns) (rows q es)))) none
      ∙ sym (firsts-put (rows q es) (long_branch q es))

  few_of_branch : (k : ℕ) (es : List EntityParts) → projected q.select ≡ []
      → few k (put (take k (branch_results q None None es))) ≡ few k (put (branch_results q None None es))
  few_of_branch k es none =
      let first = results_first es none in
      ap (few k) (sym (take-map (extended merged q) k (branch_results q None None es)) ∙ ap (take k) first)
      ∙ few_again (same_mark merged []) (mark_itself merged []) (mark_along merged []) (full_row-total merged) (full_row-same merged)
      (mark_laws merged []) k (put (rows q es))
      ∙ ap (few k) (sym first)

-- ---- all branches

-- the results of each branch and shard, in the merged columns
abbrev pub given_rows : Normal → List (List EntityParts) → List RowParts
given_rows n shards = flat_map (λ q. flat_map (λ es. map (extended n.merged q) (branch_results q None None es)) shards) n.branches

-- of each branch and shard the first results, as many as are asked for
abbrev pub cut_rows : Normal → Option ℕ → List (List EntityParts) → List RowParts
cut_rows n most =
    flat_map (λ es. flat_map (λ q. map (extended n.merged q) (at_most most (branch_results q None None es))) n.branches)

module _ (n : Normal) (lawful : IsLawfulNormal n) (shards : List (List EntityParts)) where
  abbrev whole : List RowParts → List RowParts
  whole =
      first_items (same_mark n.merged []) (mark_itself n.merged []) (mark_along n.merged []) (full_row-total n.merged)
      (full_row-same n.merged)

  abbrev given_of : Branch → List RowParts
  given_of q = flat_map (λ es. map (extended n.merged q) (branch_results q None None es)) shards

  abbrev rows_of_branch : Branch → List RowParts
  rows_of_branch q = map (extended n.merged q) (rows q (all_of_shards shards))

  each : (qs : List Branch) → All IsLawfulBranch qs → All (λ b. filter (λ c. not (has_pair b.equal c.name)) n.merged ≡ b.columns) qs
      → AllByRecursion (λ q. whole (given_of q) ≡ whole (rows_of_branch q)) qs
  each [] all own = tt
  each (q ∷ qs) all own = (
    of_branch n.merged q (All-head IsLawfulBranch q qs all)
        (All-head (λ (b : Branch). filter (λ c. not (has_pair b.equal c.name)) n.merged ≡ b.columns) q qs own) lawful.names_differ shards,
    each qs (All-tail IsLawfulBranch q qs all)
        (All-tail (λ (b : Branch). filter (λ c. not (has_pair b.equal c.name)) n.merged ≡ b.columns) q qs own),
  )

  pub long_given : (qs : List Branch) → AllByRecursion (IsLongRow n.merged) (flat_map given_of qs)
  long_given qs =
      all-flat_map (IsLongRow n.merged) given_of qs (all_of (λ q. AllByRecursion (IsLongRow n.merged) (given_of q))
      (λ q. all-flat_map (IsLongRow n.merged) (λ es. map (extended n.merged q) (branch_results q None None es)) shards
      (all_of (λ es. AllByRecursion (IsLongRow n.merged) (map (extended n.merged q) (branch_results q None None es)))
      (λ es. long_of n.merged q (branch_results q None None es)) shards)) qs)

  long_united : (qs : List Branch) → AllByRecursion (IsLongRow n.merged) (flat_map rows_of_branch qs)
  long_united qs =
      all-flat_map (IsLongRow n.merged) rows_of_branch qs (all_of (λ q. AllByRecursion (IsLongRow n.merged) (rows_of_branch q))
      (λ q. long_of n.merged q (rows q (all_of_shards shards))) qs)

  -- Of what the branches give of the shards the first row of each key is that of all rows.
  pub given-firsts : first_rows n.merged [] (given_rows n shards) ≡ first_rows n.merged [] (united n (all_of_shards shards))
  given-firsts =
      ap (firsts (same_mark n.merged []) []) (sorted-full n.merged (given_rows n shards) (long_given n.branches))
      ∙ parts_same (same_mark n.merged []) (mark_itself n.merged []) (mark_along n.merged []) (full_row-total n.merged)
      (full_row-same n.merged) given_of rows_of_branch n.branches (each n.branches lawful.lawful lawful.merged)
      ∙ ap (firsts (same_mark n.merged []) []) (sym (sorted-full n.merged (united n (all_of_shards shards)) (long_united n.branches)))

  -- So their page is that of the query over the entities of all shards.
  pub given_page : (w : Window) → n.several ≡ true
      → page_of_rows n.merged [] w (given_rows n shards) ≡ with_places n.merged (result n w (all_of_shards shards))
  given_page w several =
      ap (λ firsts. with_places n.merged (page_of n.merged w firsts)) given-firsts
      ∙ ap (λ b. with_places n.merged (page_of n.merged w (cond b (first_rows n.merged [] (united n (all_of_shards shards)))
      (flat_map (λ q. branch_results q w.start w.end (all_of_shards shards)) n.branches)))) (sym several)

  abbrev cut_to : Option ℕ → List EntityParts → Branch → List RowParts
  cut_to most es q = map (extended n.merged q) (at_most most (branch_results q None None es))

  pub long_cut : (most : Option ℕ) → AllByRecursion (IsLongRow n.merged) (cut_rows n most shards)
  long_cut most =
      all-flat_map (IsLongRow n.merged) (λ es. flat_map (cut_to most es) n.branches) shards
      (all_of (λ es. AllByRecursion (IsLongRow n.merged) (flat_map (cut_to most es) n.branches))
      (λ es. all-flat_map (IsLongRow n.merged) (cut_to most es) n.branches
      (all_of (λ q. AllByRecursion (IsLongRow n.merged) (cut_to most es q))
      (λ q. long_of n.merged q (at_most most (branch_results q None None es))) n.branches)) shards)

  module _ (k : ℕ) where
    abbrev few_of_all : List RowParts → List RowParts
    few_of_all =
        first_few (same_mark n.merged []) (mark_itself n.merged []) (mark_along n.merged []) (full_row-total n.merged)
        (full_row-same n.merged) (mark_laws n.merged []) k

    each_few : (es : List EntityParts) (qs : List Branch) → All IsLawfulBranch qs
        → All (λ b. filter (λ c. not (has_pair b.equal c.name)) n.merged ≡ b.columns) qs → All (λ (b : Branch). projected b.select ≡ []) qs
        → AllByRecursion (λ q. few_of_all (cut_to (Some k) es q) ≡ few_of_all (cut_to None es q)) qs
    each_few es [] all own none = tt
    each_few es (q ∷ qs) all own none = (
      few_of_branch n.merged q (All-head IsLawfulBranch q qs all)
          (All-head (λ (b : Branch). filter (λ c. not (has_pair b.equal c.name)) n.merged ≡ b.columns) q qs own) lawful.names_differ k es
          (All-head (λ (b : Branch). projected b.select ≡ []) q qs none),
      each_few es qs (All-tail IsLawfulBranch q qs all)
          (All-tail (λ (b : Branch). filter (λ c. not (has_pair b.equal c.name)) n.merged ≡ b.columns) q qs own)
          (All-tail (λ (b : Branch). projected b.select ≡ []) q qs none),
    )

    together : {A : Type 0} (f g : A → List RowParts) (items : List A)
        → AllByRecursion (λ a. few_of_all (f a) ≡ few_of_all (g a)) items → few_of_all (flat_map f items) ≡ few_of_all (flat_map g items)
    together =
        parts_few (same_mark n.merged []) (mark_itself n.merged []) (mark_along n.merged []) (full_row-total n.merged)
        (full_row-same n.merged) (mark_laws n.merged []) k

    -- The first k of each branch and shard tell the first k of all, where no values are projected.
    pub cut-firsts : All (λ (b : Branch). projected b.select ≡ []) n.branches
        → take k (first_rows n.merged [] (cut_rows n (Some k) shards)) ≡ take k (first_rows n.merged [] (cut_rows n None shards))
    cut-firsts none =
        ap (λ zs. take k (firsts (same_mark n.merged []) [] zs)) (sorted-full n.merged (cut_rows n (Some k) shards) (long_cut (Some k)))
        ∙ together (λ es. flat_map (cut_to (Some k) es) n.branches) (λ es. flat_map (cut_to None es) n.branches) shards
        (all_of (λ es. few_of_all (flat_map (cut_to (Some k) es) n.branches) ≡ few_of_all (flat_map (cut_to None es) n.branches))
        (λ es. together (cut_to (Some k) es) (cut_to None es) n.branches (each_few es n.branches lawful.lawful lawful.merged none)) shards)
        ∙ ap (λ zs. take k (firsts (same_mark n.merged []) [] zs))
        (sym (sorted-full n.merged (cut_rows n None shards) (long_cut None)))
