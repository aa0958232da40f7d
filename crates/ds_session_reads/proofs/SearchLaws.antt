-- Queries and statements: what the store finds is an answer to them.
use Rattle.std.proofs.Common.{◌≡◌, ℕ, zero, ◌<◌, ◌≤◌, List, [], ◌∷◌, length, map, refl, ap, sym, ◌∙◌, subst, arith, Bool, true}
use Rattle.std.proofs.Common.{false, Option, Some, None}
use Rattle.std.specs.Prelude.{All, Ok}
use Rattle.ds_entity.specs.declared.results.Item.{Item}
use Rattle.ds_entity.specs.declared.results.Seen.{Seen}
use Rattle.ds_entity.specs.declared.results.Seen.TheVariants as looked
use Rattle.ds_entity.specs.Entities.{EntityParts}
use Rattle.ds_base.specs.Keys.{KeyParts, root_of}
use Rattle.ds_indexdef.specs.declared.IndexDef.{IndexDef}
use Rattle.ds_query.specs.declared.query.Select.{Select}
use Rattle.ds_query.specs.declared.branch.Branch.{Branch}
use Rattle.ds_query.specs.declared.branch.Normal.{Normal}
use Rattle.ds_query.specs.declared.branch.Window.{Window}
use Rattle.ds_query.specs.declared.row.Place.{Place}
use Rattle.ds_query.specs.declared.conditions.Conditions.{Conditions}
use Rattle.ds_query.specs.Branching.{conditions, branch_of}
use Rattle.ds_query.specs.Normals.{normal_form}
use Rattle.ds_request.specs.declared.call.Call.{Call}
use Rattle.ds_request.specs.declared.call.Call.TheVariants as call
use Rattle.ds_request.specs.declared.call.Request.{Request}
use Rattle.ds_reply.specs.declared.reply.Body.{Body}
use Rattle.ds_reply.specs.declared.reply.Body.TheVariants as body
use Rattle.ds_model.specs.Answers.{AskedAnswers, BodyAnswers, Finds, cursor_of, page_over, window_of, FoundOver, RequestAnswers}
use Rattle.ds_model.specs.Answers.{SearchAnswers, UnlessRefused, ExpiredUnder, saw_group}
use Rattle.ds_model.specs.Asked.{Search, search_of}
use Rattle.ds_model.specs.Refusals.{IfUnrefused, Places, PlacesRead, form_refusal, search_refusal}
use Rattle.ds_model.specs.Results.{items_of, result}
use Rattle.ds_model.specs.Sessions.{Session, Transaction, counted_place, saw_counts}
use Rattle.ds_model.specs.Views.{global_view, strong_view}
use Rattle.ds_model.specs.Worlds.{World}
use Rattle.ds_store.specs.Answered.{HasReadGroup, IsExpired}
use Rattle.ds_store.specs.Passes.{PassParts, HasRead, counts_of}
use Rattle.ds_session_state.specs.Answering.{HasSaid}
use Rattle.ds_session_state.specs.Sessions.{IsWithin, world_seen}
use Rattle.ds_session_reads.proofs.CountLaws.{all_counted, counts_seen}
use Rattle.ds_protocol.specs.Refused.{is_quiet}
use Rattle.ds_session_state.proofs.SayingLaws.{said_quietly}
use Rattle.ds_session_state.specs.Standing.{AskedAt}
use Rattle.ds_session_state.proofs.ReadLaws.{expired_answers, expired_within, group_within, read_at, saw_expired}

-- ---- the reply to a search

-- was it written as a statement?
abbrev pub is_statement : Call → Bool
is_statement (call.Gql namespace text args names start end cursor) = true
is_statement _ = false

-- what a statement or a query found
abbrev pub found : Bool → Select → List Item → Seen → Option (List ℕ) → Body
found true = body.Gql
found false = body.Query

-- A search that nothing refuses: its places, what its texts stand for, and that no refusal is left.
pub record IsUnrefused (definitions : List IndexDef) (s : Session) (search : Search) (places : Places) : Type 0 where
  pub read : IfUnrefused (form_refusal s search.query) (PlacesRead (normal_form search.query).branches search places)
  pub unrefused : search_refusal definitions s search places ≡ None

-- what all branches of the search's query select is what the query selects
pub finds : (search : Search) (places : Places) (entities : List EntityParts) (results : List Item) (next : Option Place) (n : Normal)
    (w : Window)
    → n ≡ normal_form search.query → w ≡ window_of search places → 0 < length n.branches
    → All (λ q. results ≡ items_of n.merged q.select entities (result n w entities).rows) n.branches → next ≡ (result n w entities).next
    → Finds search places entities search.query.select results (cursor_of search.cursor n.branches next)
finds search places entities results next n w is_normal is_window some selected goes_on =
    record {
      select = refl;
      exact = by (conditions search.query.filters) (subst (λ m. 0 < length m.branches) is_normal some)
          (subst (λ m. All (told m) m.branches) is_normal selected);
      next = ap (λ m. cursor_of search.cursor m.branches next) is_normal
          ∙ ap (λ place. cursor_of search.cursor (normal_form search.query).branches place)
          (goes_on ∙ ap (λ m. (result m w entities).next) is_normal
          ∙ ap (λ v. (result (normal_form search.query) v entities).next) is_window);
    }
  where
    told : Normal → Branch → Type 0
    told m q = results ≡ items_of m.merged q.select entities (result m w entities).rows

    by : (cs : List Conditions) → 0 < length (map (branch_of search.query) cs)
        → All (told (normal_form search.query)) (map (branch_of search.query) cs)
        → results ≡ items_of (normal_form search.query).merged search.query.select entities (page_over search places entities).rows
    by [] low all = absurd (omega arith)
    by (c ∷ cs) low all =
        all zero (branch_of search.query c) (omega arith)
        ∙ ap (λ v. items_of (normal_form search.query).merged search.query.select entities
        (result (normal_form search.query) v entities).rows) is_window

-- an answer to a search that nothing refuses is one to its request
search_answers : (w : World) (s later : Session) (r : Request) (search : Search) (places : Places) (said : Body)
    → search_of r.call ≡ Some (Ok search)
    → IsUnrefused w.definitions s search places → SearchAnswers w s r.call search places said later → AskedAnswers w s (Ok r) said later
search_answers w s later r search places said is fine answers =
    subst (λ o. RequestAnswers w r.client s r.call o said later) (sym is) (record {
      places = places;
      read = fine.read;
      answered = subst (λ o. UnlessRefused o s said later (SearchAnswers w s r.call search places said later)) (sym fine.unrefused) answers;
    })

-- what was found, as the reply to a statement or to a query
found_answers : (w : World) (s later : Session) (c : Call) (search : Search) (places : Places) (selected : Select) (results : List Item)
    (saw : Seen)
    (told : Option (List ℕ)) → search_of c ≡ Some (Ok search)
    → FoundOver w s search places search.query.ancestor selected results saw told later
    → SearchAnswers w s c search places (found (is_statement c) selected results saw told) later
found_answers w s later (call.Query namespace kind ancestor filters orders select offset limit start end cursor) search places selected
    results saw told is a = a
found_answers w s later (call.Gql namespace text args names start end cursor) search places selected results saw told is a = a
found_answers w s later _ search places selected results saw told is a = cc

-- what was found is no lack of memory
found_body : (w : World) (s later : Session) (r : Request) (statement : Bool) (selected : Select) (results : List Item) (saw : Seen)
    (told : Option (List ℕ))
    → AskedAnswers w s (Ok r) (found statement selected results saw told) later
    → BodyAnswers w s (Ok r) (found statement selected results saw told) later
found_body w s later r true selected results saw told a = a
found_body w s later r false selected results saw told a = a

found_quietly : (statement : Bool) (selected : Select) (results : List Item) (saw : Seen) (told : Option (List ℕ))
    → is_quiet (found statement selected results saw told) ≡ true
found_quietly true selected results saw told = refl
found_quietly false selected results saw told = refl

-- an expired read is an answer to any search with an ancestor
expired_search : (w : World) (s later : Session) (c : Call) (search : Search) (places : Places) (applied m snapshot : ℕ)
    → search_of c ≡ Some (Ok search) → ExpiredUnder w s search.query.ancestor applied m snapshot later
    → SearchAnswers w s c search places (body.Expired applied m snapshot) later
expired_search w s later (call.Query namespace kind ancestor filters orders select offset limit start end cursor) search places applied m
    snapshot is a = a
expired_search w s later (call.Gql namespace text args names start end cursor) search places applied m snapshot is a = a
expired_search w s later _ search places applied m snapshot is a = cc

module _ (definitions : List IndexDef) (shards : ℕ) (window : ℕ) (r : Request) (s : Session) (p q : PassParts) (search : Search)
    (places : Places)
    (is : search_of r.call ≡ Some (Ok search)) (within : IsWithin s p) where
  abbrev w : World
  w = world_seen definitions shards (Some window) q

  -- a query with an ancestor, over the strong view
  pub found_in_group : (ancestor : KeyParts) (at : Option ℕ) (m entries : ℕ) (selected : Select) (results : List Item)
      (told : Option (List ℕ))
      → search.query.ancestor ≡ Some ancestor → IsUnrefused definitions s search places → AskedAt at s p (root_of ancestor)
      → HasReadGroup shards p q (root_of ancestor) at m entries → Finds search places (strong_view q.journal m) selected results told
      → HasSaid definitions shards (Some window) p q s (saw_group w (root_of ancestor) m s) (Ok r) (found (is_statement r.call) selected
      results (looked.Place m) told)
  found_in_group ancestor at m entries selected results told under fine asked read finds =
      let may = read_at shards s p q (root_of ancestor) at m entries within asked read in
      said_quietly definitions shards (Some window) p q s (saw_group w (root_of ancestor) m s) (Ok r)
      (found (is_statement r.call) selected results (looked.Place m) told)
      (found_quietly (is_statement r.call) selected results (looked.Place m) told) read.read
      (group_within definitions shards window s p q within (root_of ancestor) at m entries may read)
      (found_body w s (saw_group w (root_of ancestor) m s) r (is_statement r.call) selected results (looked.Place m) told
      (search_answers w s (saw_group w (root_of ancestor) m s) r search places (found (is_statement r.call) selected results
      (looked.Place m) told) is fine
      (found_answers w s (saw_group w (root_of ancestor) m s) r.call search places selected results (looked.Place m) told is
      (subst (λ a. FoundOver w s search places a selected results (looked.Place m) told (saw_group w (root_of ancestor) m s)) (sym under)
      (may.stands, finds, refl)))))

  -- a query without one, over the counted entries
  pub found_in_all : (counts : List ℕ) (selected : Select) (results : List Item) (told : Option (List ℕ)) → search.query.ancestor ≡ None
      → IsUnrefused definitions s search places → HasRead p q → counts ≡ counts_of q → counted_place q.lists counts ≤ q.place
      → Finds search places (global_view q.lists counts) selected results told
      → HasSaid definitions shards (Some window) p q s (saw_counts q.lists counts s) (Ok r) (found (is_statement r.call) selected results
      (looked.Counts counts) told)
  found_in_all counts selected results told under fine h are low finds =
      said_quietly definitions shards (Some window) p q s (saw_counts q.lists counts s) (Ok r)
      (found (is_statement r.call) selected results (looked.Counts counts) told)
      (found_quietly (is_statement r.call) selected results (looked.Counts counts) told) h
      (counts_seen s p q within counts h are low)
      (found_body w s (saw_counts q.lists counts s) r (is_statement r.call) selected results (looked.Counts counts) told
      (search_answers w s (saw_counts q.lists counts s) r search places (found (is_statement r.call) selected results
      (looked.Counts counts) told) is fine
      (found_answers w s (saw_counts q.lists counts s) r.call search places selected results (looked.Counts counts) told is
      (subst (λ a. FoundOver w s search places a selected results (looked.Counts counts) told (saw_counts q.lists counts s)) (sym under)
      (all_counted s p q within counts h are, finds, refl)))))

  -- the versions of its group's place are gone
  pub search_expired : (ancestor : KeyParts) (at : Option ℕ) (t : Transaction) (snapshot applied commit : ℕ)
      → search.query.ancestor ≡ Some ancestor
      → IsUnrefused definitions s search places → s.transaction ≡ Some t → AskedAt at s p (root_of ancestor)
      → (gone : IsExpired shards window p q (root_of ancestor) at snapshot applied commit)
      → HasSaid definitions shards (Some window) p q s (saw_expired definitions shards window s p q within (root_of ancestor) applied
      gone.place) (Ok r)
      (body.Expired applied gone.place snapshot)
  search_expired ancestor at t snapshot applied commit under fine inside asked gone =
      let later = saw_expired definitions shards window s p q within (root_of ancestor) applied gone.place in
      said_quietly definitions shards (Some window) p q s later (Ok r) (body.Expired applied gone.place snapshot) refl gone.read.read
      (expired_within definitions shards window s p q within (root_of ancestor) at snapshot applied commit asked gone)
      (search_answers w s later r search places (body.Expired applied gone.place snapshot) is fine
      (expired_search w s later r.call search places applied gone.place snapshot is
      (subst (λ a. ExpiredUnder w s a applied gone.place snapshot later) (sym under)
      (expired_answers definitions shards window s p q within (root_of ancestor) at t snapshot applied commit inside asked gone))))
