-- A query of one branch. One shard gives the first results in their order, each once, and the window cuts them; several give each its own,
-- which are put in order.
use Rattle.std.proofs.Common.{◌≡◌, List, [], ◌∷◌, ◌++◌, length, map, drop, get_or, refl, sym, ap, ◌∙◌, append-nil, arith, subst}
use Rattle.std.proofs.Common.{ℕ, false, cond, Option, Some}
use Rattle.std.specs.Prelude.{All, flat_map, sum_by}
use Rattle.std.proofs.lemmas.List.Elements.{All-head}
use Rattle.std.proofs.lemmas.List.Sums.{sum_by-cons}
use Rattle.std.proofs.lemmas.List.{drop-map}
use Rattle.std.proofs.lemmas.List.Folds.{flat_map-map, fold-map}
use Rattle.ds_base.specs.declared.column.Column.{Column}
use Rattle.ds_entity.specs.Entities.{EntityParts}
use Rattle.ds_bytes.specs.Rows.{RowParts}
use Rattle.ds_query.specs.declared.branch.Branch.{Branch}
use Rattle.ds_query.specs.declared.branch.Normal.{Normal}
use Rattle.ds_query.specs.declared.branch.Window.{Window}
use Rattle.ds_query.specs.declared.row.Place.{Place}
use Rattle.ds_query.specs.declared.row.Row.{Row}
use Rattle.ds_query.specs.Lawful.{IsLawfulNormal}
use Rattle.ds_pages.specs.declared.row_page.RowPage.{RowPage}
use Rattle.ds_pages.specs.Pages.{at_most, first_rows, last_of, last_place, page_of, plus_limit, with_places}
use Rattle.ds_pages.specs.Places.{placed}
use Rattle.ds_pages.proofs.PageLaws.{drop-seen}
use Rattle.ds_model.specs.Bounds.{given}
use Rattle.ds_model.specs.Results.{branch_results, united}
use Rattle.ds_branch.specs.BoundSums.{bound_at, bound_of_all, bound_over}
use Rattle.ds_engine.specs.Searches.{all_entities, given_over, most_of, page_in_order, page_over, rows_of_shards, search_bound}
use Rattle.ds_engine.specs.Searches.{AreOfShards, IsCutOf}
use Rattle.ds_engine.specs.Snapshots.{SnapshotParts, asked_in, entities_in}
use Rattle.ds_engine.proofs.FewerSteps.{sums-map}
use Rattle.ds_engine.proofs.ShardPages.{alone, most_of_one, one_of, page_of_single, parts-placed}

-- the page of the first rows, as many as are skipped and taken, is that of all
cut : (columns : List Column) (w : Window) (rs : List RowParts) (rows : List Row) (m : RowPage)
    → rows ≡ map (placed columns) (at_most (plus_limit w.offset w.limit) rs) → m.rows ≡ drop w.offset rows
    → m.next ≡ last_of w.start rows → m ≡ with_places columns (page_of columns w rs)
cut columns w rs rows m are some next =
    let seen : List RowParts = at_most (plus_limit w.offset w.limit) rs in
    let given : m.rows ≡ map (placed columns) (at_most w.limit (drop w.offset rs)) =
    some ∙ ap (drop w.offset) are ∙ drop-map (placed columns) w.offset seen
    ∙ ap (map (placed columns)) (drop-seen w.offset w.limit rs) in
    let last : m.next ≡ last_place columns w.start seen =
    next ∙ ap (last_of w.start) are
    ∙ fold-map (λ (place : Option Place) (row : Row). Some row.place) (placed columns) w.start seen in
    λ i. record { rows = given i; next = last i }

one_page : (n : Normal) (w : Window) (views : List (List EntityParts)) (rows : List Row) (m : RowPage) → IsLawfulNormal n
    → n.several ≡ false → length views ≡ 1 → rows ≡ map (placed n.merged) (rows_of_shards n w views)
    → m.rows ≡ drop w.offset rows → m.next ≡ last_of w.start rows → m ≡ page_over n w (all_entities views)
one_page n w views rows m lawful single one are some next =
    let v = one_of views one in
    let q = one_of n.branches (lawful.single single) in
    let results : List RowParts = branch_results q.0 w.start w.end v.0 in
    let mine : rows ≡ map (placed n.merged) (at_most (plus_limit w.offset w.limit) results) =
    are ∙ ap (map (placed n.merged))
    (alone n w q.0 views single q.1 ∙ ap (flat_map (given q.0 w.start w.end (plus_limit w.offset w.limit))) v.1
    ∙ append-nil (given q.0 w.start w.end (plus_limit w.offset w.limit) v.0)) in
    cut n.merged w results rows m mine some next
    ∙ ap (λ rs. with_places n.merged (page_of n.merged w rs))
    (ap (branch_results q.0 w.start w.end) (sym (append-nil v.0))
    ∙ sym (append-nil (branch_results q.0 w.start w.end (v.0 ++ [])))
    ∙ (λ i. flat_map (λ b. branch_results b w.start w.end (all_entities (sym v.1 i))) (sym q.1 i))
    ∙ ap (λ b. cond b (first_rows n.merged [] (united n (all_entities views)))
    (flat_map (λ b. branch_results b w.start w.end (all_entities views)) n.branches)) (sym single))

-- the same where the shard is handed out alone
pub page_of_one : (n : Normal) (w : Window) (q : Branch) (v : List EntityParts) (m : RowPage) → IsLawfulNormal n → n.several ≡ false
    → n.branches ≡ q ∷ [] → IsCutOf w (map (placed q.columns) (given q w.start w.end (most_of n w) v)) m
    → m ≡ page_over n w (all_entities (v ∷ []))
page_of_one n w q v m lawful single one page =
    one_page n w (v ∷ []) (map (placed n.merged) (rows_of_shards n w (v ∷ []))) m lawful single refl refl
    (page.rows ∙ ap (drop w.offset) same) (page.next ∙ ap (last_of w.start) same) where
      columns : q.columns ≡ n.merged
      columns = All-head (λ (b : Branch). b.columns ≡ n.merged) q [] (subst (λ (bs : List Branch). All (λ (b : Branch). b.columns
          ≡ n.merged) bs) one (lawful.single_columns single))

      same : map (placed q.columns) (given q w.start w.end (most_of n w) v) ≡ map (placed n.merged) (rows_of_shards n w (v ∷ []))
      same =
          (λ i. map (placed (columns i)) (given q w.start w.end (most_of_one n w single i) v))
          ∙ ap (map (placed n.merged)) (sym (alone n w q (v ∷ []) single one
          ∙ append-nil (given q w.start w.end (plus_limit w.offset w.limit) v)))

pub is_one : {A : Type 0} (xs : List A) (x : A) → length xs ≡ 1 → x ≡ get_or xs 0 x → xs ≡ x ∷ []
is_one [] x one is = absurd (omega (arith, one))
is_one (y ∷ []) x one is = ap (λ z. z ∷ []) (sym is)
is_one (y ∷ z ∷ xs) x one is = absurd (omega (arith, one))

pub bound_of_one : (n : Normal) (w : Window) (most : Option ℕ) (q : Branch) (s : SnapshotParts) (snapshots : List SnapshotParts)
    → n.branches ≡ q ∷ [] → snapshots ≡ s ∷ [] → search_bound n w most snapshots ≡ bound_at q w.start w.end most (asked_in s)
bound_of_one n w most q s snapshots branches shards =
    let one = sum_by-cons (bound_over w.start w.end most (asked_in s ∷ [])) q [] in
    let two = sum_by-cons (bound_at q w.start w.end most) (asked_in s) [] in
    (λ i. bound_of_all w.start w.end most (map asked_in (shards i)) (branches i)) ∙ omega (arith, one, two)

-- ---- over several shards

-- the page of what they give, in order
pub page_of_shards : (n : Normal) (w : Window) (q : Branch) (snapshots : List SnapshotParts) (m : RowPage) → IsLawfulNormal n
    → n.several ≡ false → n.branches ≡ q ∷ [] → m ≡ page_in_order q.columns w (given_over n w q snapshots)
    → AreOfShards (length (map entities_in snapshots)) 0 (map entities_in snapshots)
    → m ≡ page_over n w (all_entities (map entities_in snapshots))
page_of_shards n w q snapshots m lawful single one page own =
    let views : List (List EntityParts) = map entities_in snapshots in
    let found : List RowParts = rows_of_shards n w views in
    let columns : q.columns ≡ n.merged =
    All-head (λ (b : Branch). b.columns ≡ n.merged) q []
    (subst (λ (bs : List Branch). All (λ (b : Branch). b.columns ≡ n.merged) bs) one (lawful.single_columns single)) in
    let are : given_over n w q snapshots ≡ found =
    sym (flat_map-map (given q w.start w.end (most_of n w)) entities_in snapshots)
    ∙ (λ i. flat_map (given q w.start w.end (most_of_one n w single i)) views)
    ∙ sym (alone n w q views single one) in
    page_of_single n w views (map (placed n.merged) found) m lawful single refl
    (page ∙ (λ i. page_in_order (columns i) w (are i)) ∙ ap (page_in_order n.merged w) (sym (parts-placed n.merged found))) own

-- and the bound of one branch over them
pub bound_over_shards : (n : Normal) (w : Window) (most : Option ℕ) (q : Branch) (snapshots : List SnapshotParts)
    → n.branches ≡ q ∷ []
    → search_bound n w most snapshots ≡ sum_by (λ s. bound_at q w.start w.end most (asked_in s)) snapshots
bound_over_shards n w most q snapshots branches =
    let one = sum_by-cons (bound_over w.start w.end most (map asked_in snapshots)) q [] in
    let two = sums-map (bound_at q w.start w.end most) asked_in snapshots in
    (λ i. bound_of_all w.start w.end most (map asked_in snapshots) (branches i)) ∙ omega (arith, one, two)
