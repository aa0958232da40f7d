-- What is told of what a query or a statement finds: that it is plain, and that it is the results over the entities that are seen.
use Rattle.std.proofs.Common.{◌≡◌, ℕ, ◌<◌, ◌≤◌, ◌^◌, Bool, true, false, List, [], ◌∷◌, length, map, refl, ap, sym, ◌∙◌, subst, arith}
use Rattle.std.proofs.Common.{Option, Some, None, take}
use Rattle.std.specs.Prelude.{◌&&◌, All, IsUtf8, codes, nat_le}
use Rattle.std.specs.Cmp.{on_total}
use Rattle.std.specs.List.{AllByRecursion, list_all}
use Rattle.std.specs.Option.{option_map}
use Rattle.std.proofs.lemmas.Bool.{and_parts, leb-true}
use Rattle.std.proofs.lemmas.List.Elements.{All-head, All-tail, recursion_from_All}
use Rattle.std.proofs.lemmas.Str.{IsUtf8-from_ascii}
use Rattle.base64.specs.Engines.{standard}
use Rattle.base64.proofs.EngineFacts.{IsAscii-encode_of}
use Rattle.serde_json.specs.Data.{Data}
use Rattle.serde_json.specs.Read.{max_depth}
use Rattle.ds_base.specs.declared.column.Column.{Column}
use Rattle.ds_entity.specs.declared.results.Item.{Item}
use Rattle.ds_entity.specs.declared.results.Seen.{Seen}
use Rattle.ds_entity.specs.declared.results.Seen.TheVariants as seen
use Rattle.ds_entity.specs.Entities.{EntityParts}
use Rattle.ds_entity.specs.EntityOrder.{sorted_by_key}
use Rattle.ds_base.specs.KeyOrderLaws.{key_cmp-total}
use Rattle.ds_base.specs.Keys.{KeyParts, is_elem, is_key, is_namespace, is_path, root_of}
use Rattle.ds_base.specs.Limits.{most_elements}
use Rattle.ds_base.specs.SortingLaws.{IsSorted-sorted_by}
use Rattle.ds_query.specs.declared.branch.Branch.{Branch}
use Rattle.ds_query.specs.declared.branch.Normal.{Normal}
use Rattle.ds_query.specs.declared.branch.Pair.{Pair}
use Rattle.ds_query.specs.declared.branch.Window.{Window}
use Rattle.ds_query.specs.declared.query.Select.{Select}
use Rattle.ds_query.specs.declared.row.Place.{Place}
use Rattle.ds_query.specs.declared.row.Row.{Row}
use Rattle.ds_query.specs.Normals.{normal_form}
use Rattle.ds_cursor.specs.Cursors.{cursor_bytes, cursor_text}
use Rattle.ds_bytes.specs.Lawful.{IsLawfulKey, IsLawfulValue}
use Rattle.ds_bytes.specs.Rows.{RowParts}
use Rattle.ds_log.specs.declared.Commit.{Commit}
use Rattle.ds_reply.specs.declared.reply.Body.{Body}
use Rattle.ds_reply.specs.declared.reply.Body.TheVariants as body
use Rattle.ds_reply.specs.Replies.{reply_data}
use Rattle.ds_journal_text.proofs.PlainData.{IsPlain}
use Rattle.ds_applied.specs.AppliedLists.{shard_views}
use Rattle.ds_pages.specs.Pages.{with_places}
use Rattle.ds_pages.specs.Places.{placed}
use Rattle.ds_model.specs.ByKey.{KeysDiffer}
use Rattle.ds_model.specs.Answers.{ExpiredUnder, Finds, FoundOver, cursor_of, window_of}
use Rattle.ds_model.specs.Groups.{group_refusal}
use Rattle.ds_model.specs.Refusals.{IfUnrefused, Places, ancestor_group_refusal}
use Rattle.ds_model.specs.Results.{Page, items_of, result}
use Rattle.ds_model.specs.Sessions.{Session}
use Rattle.ds_model.specs.Worlds.{World, shard_lists}
use Rattle.ds_model.proofs.ShardViews.{views_differ}
use Rattle.ds_protocol.specs.declared.searching.Search.{Search}
use Rattle.ds_protocol.specs.Finishing.{AreByKey, found, found_of, row_parts}
use Rattle.ds_protocol.specs.Searches.{search_parts}
use Rattle.ds_reply_lines.specs.LawfulResults.{HasTexts, IsLawfulItem}
use Rattle.ds_reply_lines.specs.ReplyLines.{number_at, numbers_at}
use Rattle.ds_reply_lines.proofs.PlainReplies.{query_counts, query_counts_page, query_place, query_place_page}
use Rattle.ds_reply_lines.proofs.PlainReplies.{gql_counts, gql_counts_page, gql_place, gql_place_page}
use Rattle.ds_judging_lines.specs.Deciding.{AsksLawful}
use Rattle.ds_judging_reads.specs.Reading.{FoundAs, told_over}
use Rattle.ds_judging_lines.proofs.CountLaws.{naturals_told}
use Rattle.ds_judging_lines.proofs.LawfulItems.{AskedLawful}

-- ---- what is found, as it is told

-- what was seen has numbers of 64 bits
abbrev pub IsSmall : Seen → Type 0
IsSmall (seen.Place m) = m < 2 ^ 64
IsSmall (seen.Counts counts) = All (λ n. n < 2 ^ 64) counts

cursor_utf8 : (q : Branch) (next : Option Place) → IsUtf8 (cursor_text q next)
cursor_utf8 q next = IsUtf8-from_ascii (cursor_text q next) (IsAscii-encode_of standard (cursor_bytes q next))

module _ (client number : ℕ) (fits : client < 2 ^ 64) (numbered : number < 2 ^ 64) where
  abbrev pub data_of : Body → Data
  data_of b = reply_data (record { client = client; line = number; body = b })

  abbrev FoundPlain : Bool → Select → List Item → Seen → Option (List ℕ) → Type 0
  FoundPlain statement s results sees cursor = IsPlain (data_of (found statement s results sees cursor)) max_depth

  found_plain_page : (statement : Bool) (s : Select) (results : List Item) (sees : Seen) (text : List ℕ) → HasTexts s
      → All IsLawfulItem results → IsSmall sees → IsUtf8 text → FoundPlain statement s results sees (Some text)
  found_plain_page true s results (seen.Place m) text texts lawful small utf8 =
      gql_place_page client number fits numbered s results m text texts lawful small utf8
  found_plain_page true s results (seen.Counts counts) text texts lawful small utf8 =
      gql_counts_page client number fits numbered s results counts text texts lawful small utf8
  found_plain_page false s results (seen.Place m) text texts lawful small utf8 =
      query_place_page client number fits numbered s results m text texts lawful small utf8
  found_plain_page false s results (seen.Counts counts) text texts lawful small utf8 =
      query_counts_page client number fits numbered s results counts text texts lawful small utf8

  found_plain_alone : (statement : Bool) (s : Select) (results : List Item) (sees : Seen) → HasTexts s → All IsLawfulItem results
      → IsSmall sees → FoundPlain statement s results sees None
  found_plain_alone true s results (seen.Place m) texts lawful small = gql_place client number fits numbered s results m texts lawful small
  found_plain_alone true s results (seen.Counts counts) texts lawful small =
      gql_counts client number fits numbered s results counts texts lawful small
  found_plain_alone false s results (seen.Place m) texts lawful small =
      query_place client number fits numbered s results m texts lawful small
  found_plain_alone false s results (seen.Counts counts) texts lawful small =
      query_counts client number fits numbered s results counts texts lawful small

  pub found_plain : (statement wanted : Bool) (s : Select) (results : List Item) (sees : Seen) (qs : List Branch) (next : Option Place)
      → HasTexts s → All IsLawfulItem results → IsSmall sees → FoundPlain statement s results sees (cursor_of wanted qs next)
  found_plain statement true s results sees [] next texts lawful small = found_plain_alone statement s results sees texts lawful small
  found_plain statement true s results sees (q ∷ []) next texts lawful small =
      found_plain_page statement s results sees (cursor_text q next) texts lawful small (cursor_utf8 q next)
  found_plain statement true s results sees (q ∷ r ∷ qs) next texts lawful small =
      found_plain_alone statement s results sees texts lawful small
  found_plain statement false s results sees qs next texts lawful small =
      found_plain_alone statement s results sees texts lawful small

  -- the place is told
  pub found_place : (statement : Bool) (s : Select) (results : List Item) (m : ℕ) (cursor : Option (List ℕ))
      → number_at (codes "place") (data_of (found statement s results (seen.Place m) cursor)) ≡ Some m
  found_place true s results m None = refl
  found_place true s results m (Some text) = refl
  found_place false s results m None = refl
  found_place false s results m (Some text) = refl

  -- and so are the counts
  pub found_counts : (statement : Bool) (s : Select) (results : List Item) (counts : List ℕ) (cursor : Option (List ℕ))
      → numbers_at (codes "applied") (data_of (found statement s results (seen.Counts counts) cursor)) ≡ Some counts
  found_counts true s results counts None = naturals_told counts
  found_counts true s results counts (Some text) = naturals_told counts
  found_counts false s results counts None = naturals_told counts
  found_counts false s results counts (Some text) = naturals_told counts

  -- there is no error
  pub found_error : (statement : Bool) (s : Select) (results : List Item) (sees : Seen) (cursor : Option (List ℕ))
      → number_at (codes "error") (data_of (found statement s results sees cursor)) ≡ None
  found_error true s results (seen.Place m) None = refl
  found_error true s results (seen.Place m) (Some text) = refl
  found_error true s results (seen.Counts counts) None = refl
  found_error true s results (seen.Counts counts) (Some text) = refl
  found_error false s results (seen.Place m) None = refl
  found_error false s results (seen.Place m) (Some text) = refl
  found_error false s results (seen.Counts counts) None = refl
  found_error false s results (seen.Counts counts) (Some text) = refl

-- ---- over other entities with the same results

pub same_told : (r : Search) (n : Normal) (v : Window) (es fs : List EntityParts) (sn : Seen) → result n v es ≡ result n v fs
    → items_of n.merged r.query.select es (result n v fs).rows ≡ items_of n.merged r.query.select fs (result n v fs).rows
    → told_over r n v es sn ≡ told_over r n v fs sn
same_told r n v es fs sn pages items =
    ap (λ (p : Page). found r.statement r.query.select (items_of n.merged r.query.select es p.rows) sn
    (cursor_of r.cursor n.branches p.next)) pages
    ∙ ap (λ told. found r.statement r.query.select told sn (cursor_of r.cursor n.branches (result n v fs).next)) items

-- what a search finds over entities is what is told
pub told_found : (r : Search) (n : Normal) (v : Window) (places : Places) (es : List EntityParts) (selected : Select) (results : List Item)
    (cursor : Option (List ℕ)) (sn : Seen) → n ≡ normal_form r.query → v ≡ window_of (search_parts r) places
    → Finds (search_parts r) places es selected results cursor → found r.statement selected results sn cursor ≡ told_over r n v es sn
told_found r n v places es selected results cursor sn normal window finds =
    ap (λ s. found r.statement s results sn cursor) finds.select
    ∙ ap (λ told. found r.statement r.query.select told sn cursor)
    (finds.exact ∙ ap (λ s. items_of (normal_form r.query).merged s es (result (normal_form r.query) (window_of
    (search_parts r) places) es).rows)
    finds.select)
    ∙ ap (λ c. found r.statement r.query.select (items_of (normal_form r.query).merged r.query.select es
    (result (normal_form r.query) (window_of (search_parts r) places) es).rows) sn c) finds.next
    ∙ ap (λ (u : Window). told_over r (normal_form r.query) u es sn) (sym window)
    ∙ ap (λ (m : Normal). told_over r m v es sn) (sym normal)

-- and the other way round
pub finds_told : (r : Search) (n : Normal) (v : Window) (places : Places) (es : List EntityParts) → n ≡ normal_form r.query
    → v ≡ window_of (search_parts r) places
    → Finds (search_parts r) places es r.query.select (items_of n.merged r.query.select es (result n v es).rows)
    (cursor_of r.cursor n.branches (result n v es).next)
finds_told r n v places es normal window =
    subst (λ (m : Normal). Finds (search_parts r) places es r.query.select (items_of m.merged r.query.select es (result m v es).rows)
    (cursor_of r.cursor m.branches (result m v es).next)) (sym normal)
    (subst (λ u. Finds (search_parts r) places es r.query.select
    (items_of (normal_form r.query).merged r.query.select es (result (normal_form r.query) u es).rows)
    (cursor_of r.cursor (normal_form r.query).branches (result (normal_form r.query) u es).next)) (sym window)
    (record { select = refl; exact = refl; next = refl }))

-- ---- the cases of an answer

-- an answer is one that was found, or says that the versions are gone
pub as_found : (w : World) (s : Session) (r : Search) (places : Places) (other : Body) (later : Session) (A : Type 0)
    → ((selected : Select) (results : List Item) (sn : Seen) (cursor : Option (List ℕ))
    → other ≡ found r.statement selected results sn cursor
    → FoundOver w s (search_parts r) places r.query.ancestor selected results sn cursor later → A)
    → ((applied m snapshot : ℕ) → other ≡ body.Expired applied m snapshot → ExpiredUnder w s r.query.ancestor applied m snapshot later → A)
    → FoundAs w s r.statement (search_parts r) places other later → A
as_found w s r places other later A of_found of_expired answers = by r.statement refl other refl answers where
  by : (b : Bool) → r.statement ≡ b → (o : Body) → other ≡ o → FoundAs w s b (search_parts r) places o later → A
  by false is (body.Query selected results sn cursor) same over =
      of_found selected results sn cursor (same ∙ ap (λ b. found b selected results sn cursor) (sym is)) over
  by true is (body.Gql selected results sn cursor) same over =
      of_found selected results sn cursor (same ∙ ap (λ b. found b selected results sn cursor) (sym is)) over
  by false is (body.Expired applied m snapshot) same gone = of_expired applied m snapshot same gone
  by true is (body.Expired applied m snapshot) same gone = of_expired applied m snapshot same gone
  by false is _ same none = absurd none
  by true is _ same none = absurd none

pub found_as : (w : World) (s : Session) (r : Search) (places : Places) (selected : Select) (results : List Item) (sn : Seen)
    (cursor : Option (List ℕ)) (later : Session)
    → FoundOver w s (search_parts r) places r.query.ancestor selected results sn cursor later
    → FoundAs w s r.statement (search_parts r) places (found r.statement selected results sn cursor) later
found_as w s r places selected results sn cursor later over = by r.statement where
  by : (b : Bool) → FoundAs w s b (search_parts r) places (found b selected results sn cursor) later
  by false = over
  by true = over

pub expired_as : (w : World) (s : Session) (r : Search) (places : Places) (applied m snapshot : ℕ) (later : Session)
    → ExpiredUnder w s r.query.ancestor applied m snapshot later
    → FoundAs w s r.statement (search_parts r) places (body.Expired applied m snapshot) later
expired_as w s r places applied m snapshot later gone = by r.statement where
  by : (b : Bool) → FoundAs w s b (search_parts r) places (body.Expired applied m snapshot) later
  by false = gone
  by true = gone

pub by_pairs : (qs : List Branch) → All AsksLawful qs → AllByRecursion AskedLawful qs
by_pairs [] all = tt
by_pairs (q ∷ qs) all = (
  recursion_from_All (λ (p : Pair). IsLawfulValue p.value) q.equal (All-head AsksLawful q qs all),
  by_pairs qs (All-tail AsksLawful q qs all),
)

pub unless : (o : Option Body) (F : Type 0) → F → IfUnrefused o F
unless None F fact = fact
unless (Some b) F fact = tt

unplaced : (columns : List Column) (rs : List RowParts) → map row_parts (map (placed columns) rs) ≡ rs
unplaced columns [] = refl
unplaced columns (r ∷ rs) = ap (λ xs. r ∷ xs) (unplaced columns rs)

-- what is told of a page is told of the results
pub told_page : (r : Search) (n : Normal) (w : Window) (es : List EntityParts) (rows : List Row) (next told : Option Place) (sn : Seen)
    → record { rows = rows; next = next } ≡ with_places n.merged (result n w es) → told ≡ next
    → found_of r n es rows told sn ≡ told_over r n w es sn
told_page r n w es rows next told sn page same =
    let given : map row_parts rows ≡ (result n w es).rows =
    ap (λ (p : _). map row_parts p.rows) page ∙ unplaced n.merged (result n w es).rows in
    let goes_on : told ≡ (result n w es).next = same ∙ ap (λ (p : _). p.next) page in
    ap (λ rs. found r.statement r.query.select (items_of n.merged r.query.select es rs) sn (cursor_of r.cursor n.branches told)) given
    ∙ ap (λ p. found r.statement r.query.select (items_of n.merged r.query.select es (result n w es).rows) sn
    (cursor_of r.cursor n.branches p)) goes_on

-- entities that were put in order stand by key
pub by_key : (xs es : List EntityParts) → xs ≡ sorted_by_key es → AreByKey xs
by_key xs es is = subst AreByKey (sym is) (IsSorted-sorted_by (on_total (λ (e : EntityParts). e.key) key_cmp-total) es)

-- the entities of all shards by key
pub all_by_key : (journal : List Commit) (shards : ℕ) (counts : List ℕ) (visible items : List EntityParts)
    → visible ≡ shard_views (shard_lists shards journal) counts → (KeysDiffer visible → items ≡ sorted_by_key visible)
    → items ≡ sorted_by_key (shard_views (shard_lists shards journal) counts)
all_by_key journal shards counts visible items views is =
    is (subst KeysDiffer (sym views) (views_differ journal shards counts)) ∙ ap sorted_by_key views

-- ---- the group of a search

first_there : {A : Type 0} (xs : List A) → 1 ≤ length (take 1 xs) → 1 ≤ length xs
first_there [] some = some
first_there (x ∷ xs) some = omega arith

rooted : (k : KeyParts) → is_key k ≡ true → 1 ≤ length k.elems
rooted k is =
    let path = (and_parts (is_namespace k.namespace) (is_path k.elems) is).1 in
    let long = (and_parts (nat_le 1 (length k.elems) && nat_le (length k.elems) most_elements) (list_all is_elem k.elems) path).0 in
    leb-true 1 (length k.elems) (and_parts (nat_le 1 (length k.elems)) (nat_le (length k.elems) most_elements) long).0

-- it is the ancestor's
pub record HasAncestor (r : Search) (group : KeyParts) : Type 0 where
  pub ancestor : KeyParts
  pub has : r.query.ancestor ≡ Some ancestor
  pub root : group ≡ root_of ancestor
  pub some : 1 ≤ length ancestor.elems

pub ancestor_of : (r : Search) (group : KeyParts) → option_map root_of r.query.ancestor ≡ Some group → IsLawfulKey group
    → HasAncestor r group
ancestor_of r group is lawful = by r.query.ancestor refl is where
  by : (o : Option KeyParts) → r.query.ancestor ≡ o → option_map root_of o ≡ Some group → HasAncestor r group
  by None has none = cc
  by (Some ancestor) has some =
      let same : group ≡ root_of ancestor = cc in record {
        ancestor = ancestor;
        has = has;
        root = same;
        some = first_there ancestor.elems (subst (λ (k : KeyParts). 1 ≤ length k.elems) same (rooted group lawful.rules));
      }

-- its group isn't refused
pub unrefused_in : (s : Session) (r : Search) (group : KeyParts) → (a : HasAncestor r group)
    → group_refusal s.transaction (Some group) ≡ None
    → ancestor_group_refusal s.transaction r.query.ancestor ≡ None
unrefused_in s r group a allowed =
    ap (ancestor_group_refusal s.transaction) a.has ∙ ap (λ g. group_refusal s.transaction (Some g)) (sym a.root) ∙ allowed

-- or it is
pub refused_in : (s : Session) (r : Search) (group : KeyParts) (b : Body) → (a : HasAncestor r group)
    → group_refusal s.transaction (Some group) ≡ Some b → ancestor_group_refusal s.transaction r.query.ancestor ≡ Some b
refused_in s r group b a refused =
    ap (ancestor_group_refusal s.transaction) a.has ∙ ap (λ g. group_refusal s.transaction (Some g)) (sym a.root) ∙ refused
