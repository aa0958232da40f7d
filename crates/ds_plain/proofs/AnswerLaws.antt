-- Pages of a query, from those of its rows.
use Rattle.std.proofs.Common.{◌≡◌, ℕ, ◌+◌, ◌<◌, true, false, List, [], ◌∷◌, ◌++◌, map, cond, length, take, get_or}
use Rattle.std.proofs.Common.{refl, sym, ap, subst, ◌∙◌, append-nil, append_assoc, arith}
use Rattle.std.specs.Prelude.{filter, flat_map, All, IfOk, Result, Ok, Err}
use Rattle.std.proofs.lemmas.List.{map-append, map_push, take_more}
use Rattle.std.proofs.lemmas.Grind.{flat_map-append}
use Rattle.std.proofs.lemmas.List.Elements.{All-nil, All-cons, All-head, All-tail, All-append}
use Rattle.ds_base.specs.declared.column.Column.{Column}
use Rattle.ds_entity.specs.Entities.{EntityParts}
use Rattle.ds_bytes.specs.Rows.{RowParts}
use Rattle.ds_query.specs.declared.branch.Branch.{Branch}
use Rattle.ds_query.specs.declared.branch.Normal.{Normal}
use Rattle.ds_query.specs.declared.branch.Window.{Window}
use Rattle.ds_query.specs.declared.row.Row.{Row}
use Rattle.ds_query.specs.Filters.{projected}
use Rattle.ds_query.specs.Lawful.{IsLawfulNormal}
use Rattle.ds_model.specs.Rows.{rows}
use Rattle.ds_model.specs.Results.{extended, united, first_rows, page_of, branch_results, is_between}
use Rattle.ds_pages.specs.declared.row_page.RowPage.{RowPage}
use Rattle.ds_pages.specs.Pages.{all_rows, page_of_rows, with_places}
use Rattle.ds_pages.specs.Places.{IsPlaced, placed, parts_of}
use Rattle.ds_plain.specs.Answers.{branch_list, query_page}

-- a row's place is told by the row
parts-placed : (columns : List Column) (rs : List RowParts) → map parts_of (map (placed columns) rs) ≡ rs
parts-placed columns [] = refl
parts-placed columns (r ∷ rs) = ap (λ zs. r ∷ zs) (parts-placed columns rs)

-- ---- several branches

parts-united : (merged : List Column) (es : List EntityParts) (qs : List Branch)
    → map parts_of (all_rows (map (branch_list merged es) qs)) ≡ flat_map (λ q. map (extended merged q) (rows q es)) qs
parts-united merged es [] = refl
parts-united merged es (q ∷ qs) =
    map-append parts_of (branch_list merged es q) (all_rows (map (branch_list merged es) qs))
    ∙ (λ i. parts-placed merged (map (extended merged q) (rows q es)) i ++ parts-united merged es qs i)

pub several_page : (n : Normal) (w : Window) (es : List EntityParts) (lists : List (List Row)) (names : List (List ℕ)) (m : RowPage)
    → n.several ≡ true → lists ≡ map (branch_list n.merged es) n.branches → names ≡ []
    → m ≡ page_of_rows n.merged names w (map parts_of (all_rows lists))
    → m ≡ query_page n w es
several_page n w es lists names m s all none page =
    page
    ∙ (λ i. page_of_rows n.merged (none i) w (map parts_of (all_rows (all i))))
    ∙ ap (page_of_rows n.merged [] w) (parts-united n.merged es n.branches)
    ∙ ap (λ b. with_places n.merged (page_of n.merged w
    (cond b (first_rows n.merged [] (united n es)) (flat_map (λ q. branch_results q w.start w.end es) n.branches)))) (sym s)

-- the rows of one list more are placed
pub placed_more : (columns : List Column) (lists : List (List Row)) (list : List Row)
    → All (IsPlaced columns) (all_rows lists) → All (IsPlaced columns) list → All (IsPlaced columns) (all_rows (lists ++ list ∷ []))
placed_more columns lists list before new =
    subst (λ rs. All (IsPlaced columns) rs)
    (sym (flat_map-append (λ (rs : List Row). rs) lists (list ∷ []) ∙ ap (λ rs. all_rows lists ++ rs) (append-nil list)))
    (All-append (IsPlaced columns) (all_rows lists) list before new)

-- ---- one branch

only : (bs : List Branch) (q : Branch) → length bs ≡ 1 → q ≡ get_or bs 0 q → bs ≡ q ∷ []
only [] q one e = absurd (omega arith)
only (b ∷ []) q one e = ap (λ z. z ∷ []) (sym e)
only (b ∷ c ∷ bs) q one e = absurd (omega arith)

pub single_page : (n : Normal) (w : Window) (es : List EntityParts) (q : Branch) (names : List (List ℕ)) (given : List Row) (m : RowPage)
    → IsLawfulNormal n → n.several ≡ false → q ≡ get_or n.branches 0 q → names ≡ projected q.select
    → given ≡ map (placed q.columns) (filter (is_between q.columns w.start w.end) (rows q es))
    → m ≡ page_of_rows q.columns names w (map parts_of given)
    → m ≡ query_page n w es
single_page n w es q names given m lawful s first named all page =
    let one : n.branches ≡ q ∷ [] = only n.branches q (lawful.single s) first in
    let columns : q.columns ≡ n.merged =
    All-head (λ (b : Branch). b.columns ≡ n.merged) q []
    (subst (λ bs. All (λ (b : Branch). b.columns ≡ n.merged) bs) one (lawful.single_columns s)) in
    let results : List RowParts = branch_results q w.start w.end es in
    page
    ∙ ap (page_of_rows q.columns names w)
    (ap (map parts_of) all ∙ parts-placed q.columns (filter (is_between q.columns w.start w.end) (rows q es)))
    ∙ ap (λ ns. page_of_rows q.columns ns w (filter (is_between q.columns w.start w.end) (rows q es))) named
    ∙ ap (λ cs. with_places cs (page_of cs w results)) columns
    ∙ ap (λ rs. with_places n.merged (page_of n.merged w rs)) (sym (append-nil results))
    ∙ ap (λ bs. with_places n.merged (page_of n.merged w (flat_map (λ b. branch_results b w.start w.end es) bs))) (sym one)
    ∙ ap (λ b. with_places n.merged (page_of n.merged w
    (cond b (first_rows n.merged [] (united n es)) (flat_map (λ b. branch_results b w.start w.end es) n.branches)))) (sym s)

-- ---- loops over rows that are found

-- one row more
pub pushed : {A B : Type 0} (F : List A → List B) (done new : List B) (left rest : List A) (x : A) (y : B) (whole : List B)
    → left ≡ x ∷ rest → new ≡ done ++ y ∷ [] → F (x ∷ rest) ≡ y ∷ F rest → done ++ F left ≡ whole → new ++ F rest ≡ whole
pushed F done new left rest x y whole next put step all =
    ap (λ ys. ys ++ F rest) put ∙ append_assoc done (y ∷ []) (F rest) ∙ ap (λ ys. done ++ ys) (sym step)
    ∙ ap (λ xs. done ++ F xs) (sym next) ∙ all

-- a row that is left out
pub skipped : {A B : Type 0} (F : List A → List B) (done : List B) (left rest : List A) (x : A) (whole : List B)
    → left ≡ x ∷ rest → F (x ∷ rest) ≡ F rest → done ++ F left ≡ whole → done ++ F rest ≡ whole
skipped F done left rest x whole next step all = ap (λ ys. done ++ ys) (sym step) ∙ ap (λ xs. done ++ F xs) (sym next) ∙ all

pub all_pushed : {A : Type 0} (P : A → Type 0) (done new : List A) (y : A) → new ≡ done ++ y ∷ [] → All P done → P y → All P new
all_pushed P done new y put before this =
    subst (λ ys. All P ys) (sym put) (All-append P done (y ∷ []) before (All-cons P y [] this (All-nil P)))

pub all_left : {A : Type 0} (P : A → Type 0) (left rest : List A) (x : A) → left ≡ x ∷ rest → All P left → All P rest
all_left P left rest x next all = All-tail P x rest (subst (λ xs. All P xs) next all)

-- one item more of those that a loop has seen
pub seen_more : {A B : Type 0} (f : A → B) (xs : List A) (i : ℕ) (x : A) → i < length xs → x ≡ get_or xs i x
    → map f (take (i + 1) xs) ≡ map f (take i xs) ++ f x ∷ []
seen_more f xs i x below is =
    ap (map f) (take_more xs i x below) ∙ map_push f (take i xs) (get_or xs i x) ∙ ap (λ y. map f (take i xs) ++ f y ∷ []) (sym is)

-- what holds of a page that there is
pub given : {A E : Type 0} {P Q : A → Type 0} (r : Result A E) → IfOk r P → ((a : A) → P a → Q a) → IfOk r Q
given (Ok a) p f = f a p
given (Err e) p f = tt
