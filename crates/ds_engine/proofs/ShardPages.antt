-- The page of what the shards give is the page of the query over the entities of all shards.
use Rattle.std.proofs.Common.{◌≡◌, ℕ, ◌+◌, List, [], ◌∷◌, ◌++◌, length, map, get_or, refl, ap, sym, ◌∙◌, subst, append-nil, arith}
use Rattle.std.proofs.Common.{◌<◌, Bool, true, false, ◌&&◌, cond, Option, Some, None}
use Rattle.std.specs.Prelude.{All, flat_map}
use Rattle.std.proofs.lemmas.Bool.{true≢false}
use Rattle.std.proofs.lemmas.List.Elements.{All-head, All-tail, All-nil, All-cons}
use Rattle.ds_base.specs.declared.column.Column.{Column}
use Rattle.ds_entity.specs.declared.results.Item.{Item}
use Rattle.ds_entity.specs.Entities.{EntityParts}
use Rattle.ds_base.specs.Sorting.{sorted_by}
use Rattle.ds_base.specs.SortingLaws.{sorted_by-IsPermutation}
use Rattle.ds_bytes.specs.Rows.{RowParts}
use Rattle.ds_query.specs.declared.query.Select.{Select}
use Rattle.ds_query.specs.declared.query.Select.TheVariants as select
use Rattle.ds_query.specs.declared.branch.Branch.{Branch}
use Rattle.ds_query.specs.declared.branch.Normal.{Normal}
use Rattle.ds_query.specs.declared.branch.Window.{Window}
use Rattle.ds_query.specs.declared.row.Row.{Row}
use Rattle.ds_query.specs.Filters.{projected}
use Rattle.ds_query.specs.Reasons.{is_projection}
use Rattle.ds_query.specs.Lawful.{AreAlike, IsLawfulNormal, IsPlaceless, SuitsSeveral}
use Rattle.ds_pages.specs.declared.row_page.RowPage.{RowPage}
use Rattle.ds_pages.specs.Extended.{extended}
use Rattle.ds_pages.specs.Pages.{at_most, first_rows, page_of, page_of_rows, plus_limit, same_mark, with_places}
use Rattle.ds_pages.specs.Places.{compare_rows, parts_of, placed}
use Rattle.ds_model.specs.Bounds.{given}
use Rattle.ds_model.specs.Results.{branch_results, items_of, result, united}
use Rattle.ds_model.proofs.RowOrder.{full_row-total, full_row-same, sorted-full}
use Rattle.ds_engine.proofs.PartFirsts.{AreParts, firsts}
use Rattle.ds_engine.proofs.ShardResults.{page-seen, shards_apart, shards_page}
use Rattle.ds_engine.proofs.UnitedResults.{cut-firsts, cut_rows, given_page, given_rows, long_cut, long_given}
use Rattle.ds_engine.specs.Searches.{AreOfShards, IsResultOf, all_entities, item_in, page_over}
use Rattle.ds_engine.specs.Searches.{most_of, rows_of_shards, selects_projection, shard_among}
use Rattle.ds_engine.proofs.InAnyOrder.{either_order}
use Rattle.ds_engine.proofs.InShards.{items_in_shards}

as_parts : (shards first : ℕ) (views : List (List EntityParts)) → AreOfShards shards first views
    → AreParts (λ (e : EntityParts). shard_among shards e.key) first views
as_parts shards first [] own = tt
as_parts shards first (es ∷ views) own = (own.0, as_parts shards (first + 1) views own.1)

-- ---- several branches

-- all branches select what the first one does
selected_alike : (n : Normal) (q : Branch) (P : Select → Type 0) → IsLawfulNormal n → q ≡ get_or n.branches 0 q → P q.select
    → All (λ (b : Branch). P b.select) n.branches
selected_alike n q P lawful first here = from n.branches lawful.alike first where
  each : (bs : List Branch) → All (AreAlike q) bs → All (λ (b : Branch). P b.select) bs
  each [] alike = All-nil (λ (b : Branch). P b.select)
  each (b ∷ bs) alike =
      All-cons (λ (b : Branch). P b.select) b bs (subst P (All-head (AreAlike q) b bs alike).select here)
      (each bs (All-tail (AreAlike q) b bs alike))

  from : (bs : List Branch) → All (λ a. All (AreAlike a) bs) bs → q ≡ get_or bs 0 q → All (λ (b : Branch). P b.select) bs
  from [] alike is = All-nil (λ (b : Branch). P b.select)
  from (b ∷ bs) alike is =
      let of_b : All (AreAlike b) (b ∷ bs) = All-head (λ a. All (AreAlike a) (b ∷ bs)) b bs alike in
      each (b ∷ bs) (subst (λ a. All (AreAlike a) (b ∷ bs)) (sym is) of_b)

-- where no projection is selected, no branch projects values
no_names : (s : Select) → is_projection s ≡ false → projected s ≡ []
no_names select.Entities e = refl
no_names select.Keys e = refl
no_names (select.Projection names) e = absurd (true≢false e)

none_projected : (n : Normal) → IsLawfulNormal n → selects_projection n.branches ≡ false
    → All (λ (b : Branch). projected b.select ≡ []) n.branches
none_projected n lawful none =
    let first = first_branch n.branches lawful.some in
    selected_alike n first.0 (λ s. projected s ≡ []) lawful first.1 (no_names first.0.select (first.2 ∙ none))
  where
    first_branch : (bs : List Branch) → 0 < length bs → (q : Branch) × (q ≡ get_or bs 0 q) × (is_projection q.select ≡ selects_projection bs)
    first_branch [] some = absurd (omega (arith, some))
    first_branch (q ∷ bs) some = (q, refl, refl)

module _ (n : Normal) (views : List (List EntityParts)) (lawful : IsLawfulNormal n) where
  -- shard by shard or branch by branch, the first row of each key is the same
  same_firsts : first_rows n.merged [] (cut_rows n None views) ≡ first_rows n.merged [] (given_rows n views)
  same_firsts =
      ap (firsts (same_mark n.merged []) [])
      (sorted-full n.merged (cut_rows n None views) (long_cut n lawful views None)
      ∙ sorted_by-IsPermutation (full_row-total n.merged) (full_row-same n.merged) (cut_rows n None views) (given_rows n views)
      (either_order (λ es q. map (extended n.merged q) (branch_results q None None es)) views n.branches)
      ∙ sym (sorted-full n.merged (given_rows n views) (long_given n lawful views n.branches)))

  -- the first ones that are skipped or taken are told by what is given
  abbrev seen : ℕ → Option ℕ → Option ℕ → List RowParts
  seen offset limit most = at_most (plus_limit offset limit) (first_rows n.merged [] (cut_rows n most views))

  same_seen : (w : Window) → n.several ≡ true → seen w.offset w.limit (most_of n w) ≡ seen w.offset w.limit None
  same_seen w several = by (selects_projection n.branches) refl where
    limited : All (λ (b : Branch). projected b.select ≡ []) n.branches → (limit : Option ℕ)
        → seen w.offset limit (plus_limit w.offset limit) ≡ seen w.offset limit None
    limited none None = refl
    limited none (Some limit) = cut-firsts n lawful views (w.offset + limit) none

    by : (b : Bool) → selects_projection n.branches ≡ b → seen w.offset w.limit (most_of n w) ≡ seen w.offset w.limit None
    by true is = λ i. seen w.offset w.limit (cond (several i && is i) None (plus_limit w.offset w.limit))
    by false is =
        (λ i. seen w.offset w.limit (cond (several i && is i) None (plus_limit w.offset w.limit))) ∙ limited (none_projected n lawful is) w.limit

several_rows : (n : Normal) (w : Window) (views : List (List EntityParts)) → n.several ≡ true → IsPlaceless w
    → rows_of_shards n w views ≡ cut_rows n (most_of n w) views
several_rows n w views several placeless =
    λ i. flat_map (λ es. flat_map (λ q. cond (several i) (map (extended n.merged q)
    (given q (placeless.start i) (placeless.end i) (most_of n w) es))
    (given q (placeless.start i) (placeless.end i) (most_of n w) es)) n.branches) views

suits_several : (b : Bool) (w : Window) → SuitsSeveral b w → b ≡ true → IsPlaceless w
suits_several true w suits is = suits
suits_several false w suits is = cc

several_page : (n : Normal) (w : Window) (views : List (List EntityParts)) → IsLawfulNormal n → SuitsSeveral n.several w
    → n.several ≡ true
    → page_of_rows n.merged [] w (rows_of_shards n w views) ≡ with_places n.merged (result n w (all_entities views))
several_page n w views lawful suits several =
    ap (page_of_rows n.merged [] w) (several_rows n w views several (suits_several n.several w suits several))
    ∙ ap (with_places n.merged)
    (page-seen n.merged w (first_rows n.merged [] (cut_rows n (most_of n w) views)) (first_rows n.merged [] (cut_rows n None views))
    (same_seen n views lawful w several))
    ∙ ap (λ fs. with_places n.merged (page_of n.merged w fs)) (same_firsts n views lawful)
    ∙ given_page n lawful views w several

-- ---- one branch

pub only : (bs : List Branch) (q : Branch) → length bs ≡ 1 → q ≡ get_or bs 0 q → bs ≡ q ∷ []
only [] q one e = absurd (omega (arith, one))
only (b ∷ []) q one e = ap (λ z. z ∷ []) (sym e)
only (b ∷ c ∷ bs) q one e = absurd (omega (arith, one))

pub most_of_one : (n : Normal) (w : Window) → n.several ≡ false → most_of n w ≡ plus_limit w.offset w.limit
most_of_one n w single = λ i. cond (single i && selects_projection n.branches) None (plus_limit w.offset w.limit)

pub alone : (n : Normal) (w : Window) (q : Branch) (views : List (List EntityParts)) → n.several ≡ false → n.branches ≡ q ∷ []
    → rows_of_shards n w views ≡ flat_map (given q w.start w.end (plus_limit w.offset w.limit)) views
alone n w q views single one =
    (λ i. flat_map (λ es. flat_map (λ b. cond (single i) (map (extended n.merged b) (given b w.start w.end (most_of_one n w single i) es))
    (given b w.start w.end (most_of_one n w single i) es)) (one i)) views)
    ∙ each views
  where
    each : (es : List (List EntityParts))
        → flat_map (λ e. given q w.start w.end (plus_limit w.offset w.limit) e ++ []) es
        ≡ flat_map (given q w.start w.end (plus_limit w.offset w.limit)) es
    each [] = refl
    each (e ∷ es) = λ i. append-nil (given q w.start w.end (plus_limit w.offset w.limit) e) i ++ each es i

pub one_of : {A : Type 0} (xs : List A) → length xs ≡ 1 → (x : A) × (xs ≡ x ∷ [])
one_of [] one = absurd (omega (arith, one))
one_of (x ∷ []) one = (x, refl)
one_of (x ∷ y ∷ xs) one = absurd (omega (arith, one))

columns_of_one : (n : Normal) (q : Branch) → IsLawfulNormal n → n.several ≡ false → n.branches ≡ q ∷ [] → q.columns ≡ n.merged
columns_of_one n q lawful single one =
    All-head (λ (b : Branch). b.columns ≡ n.merged) q []
    (subst (λ bs. All (λ (b : Branch). b.columns ≡ n.merged) bs) one (lawful.single_columns single))

-- of what the shards give of one branch, in order, each is the first of its mark
all_first : (n : Normal) (w : Window) (q : Branch) (views : List (List EntityParts)) → IsLawfulNormal n → n.several ≡ false
    → n.branches ≡ q ∷ [] → AreOfShards (length views) 0 views
    → sorted_by (compare_rows n.merged) (rows_of_shards n w views) ≡ first_rows n.merged (projected q.select) (rows_of_shards n w views)
all_first n w q views lawful single one own =
    let rows : List RowParts = flat_map (given q w.start w.end (plus_limit w.offset w.limit)) views in
    let are = alone n w q views single one in
    let columns = columns_of_one n q lawful single one in
    ap (sorted_by (compare_rows n.merged)) are
    ∙ ap (λ cs. sorted_by (compare_rows cs) rows) (sym columns)
    ∙ sym (shards_apart q w.start w.end (shard_among (length views)) (plus_limit w.offset w.limit) views
    (as_parts (length views) 0 views own))
    ∙ ap (λ cs. first_rows cs (projected q.select) rows) columns
    ∙ ap (first_rows n.merged (projected q.select)) (sym are)

single_page : (n : Normal) (w : Window) (q : Branch) (views : List (List EntityParts)) → IsLawfulNormal n → n.several ≡ false
    → q ≡ get_or n.branches 0 q → AreOfShards (length views) 0 views
    → page_of_rows n.merged (projected q.select) w (rows_of_shards n w views) ≡ with_places n.merged (result n w (all_entities views))
single_page n w q views lawful single first own =
    let one : n.branches ≡ q ∷ [] = only n.branches q (lawful.single single) first in
    let columns : q.columns ≡ n.merged = columns_of_one n q lawful single one in
    let results : List RowParts = branch_results q w.start w.end (all_entities views) in
    ap (page_of_rows n.merged (projected q.select) w) (alone n w q views single one)
    ∙ ap (λ cs. page_of_rows cs (projected q.select) w (flat_map (given q w.start w.end (plus_limit w.offset w.limit)) views)) (sym columns)
    ∙ shards_page q w (shard_among (length views)) views (as_parts (length views) 0 views own)
    ∙ ap (λ cs. with_places cs (page_of cs w results)) columns
    ∙ ap (λ rs. with_places n.merged (page_of n.merged w rs)) (sym (append-nil results))
    ∙ ap (λ bs. with_places n.merged (page_of n.merged w (flat_map (λ b. branch_results b w.start w.end (all_entities views)) bs)))
    (sym one)
    ∙ ap (λ b. with_places n.merged (page_of n.merged w
    (cond b (first_rows n.merged [] (united n (all_entities views)))
    (flat_map (λ b. branch_results b w.start w.end (all_entities views)) n.branches)))) (sym single)

-- ---- a query

-- rows without their places
pub parts-placed : (columns : List Column) (rs : List RowParts) → map parts_of (map (placed columns) rs) ≡ rs
parts-placed columns [] = refl
parts-placed columns (r ∷ rs) = ap (λ zs. r ∷ zs) (parts-placed columns rs)

-- the page of what the shards give of several branches is that over the entities of all
pub page_of_several : (n : Normal) (w : Window) (views : List (List EntityParts)) (given : List Row) (page : RowPage) → IsLawfulNormal n
    → SuitsSeveral n.several w → n.several ≡ true → given ≡ map (placed n.merged) (rows_of_shards n w views)
    → page ≡ page_of_rows n.merged [] w (map parts_of given) → page ≡ page_over n w (all_entities views)
page_of_several n w views given page lawful suits several all is =
    is ∙ ap (λ rs. page_of_rows n.merged [] w (map parts_of rs)) all
    ∙ ap (page_of_rows n.merged [] w) (parts-placed n.merged (rows_of_shards n w views))
    ∙ several_page n w views lawful suits several

-- and so is that of one branch, of which no result is given twice
pub page_of_single : (n : Normal) (w : Window) (views : List (List EntityParts)) (given : List Row) (page : RowPage) → IsLawfulNormal n
    → n.several ≡ false → given ≡ map (placed n.merged) (rows_of_shards n w views)
    → page ≡ with_places n.merged (page_of n.merged w (sorted_by (compare_rows n.merged) (map parts_of given)))
    → AreOfShards (length views) 0 views → page ≡ page_over n w (all_entities views)
page_of_single n w views given page lawful single all is own =
    let q = one_of n.branches (lawful.single single) in
    let found : List RowParts = rows_of_shards n w views in
    is ∙ ap (λ rs. with_places n.merged (page_of n.merged w (sorted_by (compare_rows n.merged) (map parts_of rs)))) all
    ∙ ap (λ rs. with_places n.merged (page_of n.merged w (sorted_by (compare_rows n.merged) rs))) (parts-placed n.merged found)
    ∙ ap (λ rs. with_places n.merged (page_of n.merged w rs)) (all_first n w q.0 views lawful single q.1 own)
    ∙ single_page n w q.0 views lawful single (sym (ap (λ bs. get_or bs 0 q.0) q.1)) own

-- that page, and what is told of its rows by their shards, are what the query finds
pub found_in_shards : (n : Normal) (w : Window) (q : Branch) (views : List (List EntityParts)) (page : RowPage) (results : List Item)
    → IsLawfulNormal n → q ≡ get_or n.branches 0 q → page ≡ page_over n w (all_entities views)
    → results ≡ map (item_in n.merged q.select views) (map parts_of page.rows)
    → AreOfShards (length views) 0 views → IsResultOf n w (all_entities views) results page.next
found_in_shards n w q views page results lawful first found items own =
    let told : results ≡ items_of n.merged q.select (all_entities views) (result n w (all_entities views)).rows =
    items ∙ ap (λ (p : RowPage). map (item_in n.merged q.select views) (map parts_of p.rows)) found
    ∙ ap (map (item_in n.merged q.select views)) (parts-placed n.merged (result n w (all_entities views)).rows)
    ∙ items_in_shards n.merged q.select views (result n w (all_entities views)).rows own in
    record {
      told = selected_alike n q (λ s. results ≡ items_of n.merged s (all_entities views) (result n w (all_entities views)).rows) lawful
          first told;
      place = ap (λ (p : RowPage). p.next) found;
    }
