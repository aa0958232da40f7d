-- What one reply says, of a journal and one list of entries per shard, from the session before to the session after.
use Rattle.std.specs.Prelude.{◌≡◌, ℕ, ◌+◌, ◌-◌, ◌<◌, ◌≤◌, Bool, true, false, List, [], ◌∷◌, Option, Some, None, Result, Ok, Err}
use Rattle.std.specs.Prelude.{length, take, slice_get, ⊤}
use Rattle.ds_entity.specs.declared.entity.Property.{Property}
use Rattle.ds_entity.specs.declared.results.Item.{Item}
use Rattle.ds_entity.specs.declared.results.Seen.{Seen}
use Rattle.ds_entity.specs.declared.results.Seen.TheVariants as seen
use Rattle.ds_base.specs.Keys.{KeyParts, root_of, renumbered}
use Rattle.ds_entity.specs.Entities.{EntityParts}
use Rattle.ds_base.specs.Limits.{greatest_id}
use Rattle.ds_query.specs.declared.branch.Branch.{Branch}
use Rattle.ds_query.specs.declared.branch.Window.{Window}
use Rattle.ds_query.specs.declared.query.Select.{Select}
use Rattle.ds_query.specs.declared.row.Place.{Place}
use Rattle.ds_query.specs.Normals.{normal_form}
use Rattle.ds_cursor.specs.Cursors.{cursor_text}
use Rattle.ds_log.specs.declared.Commit.{Commit}
use Rattle.ds_log.specs.declared.Entry.{Entry}
use Rattle.ds_log.specs.declared.Write.{Write}
use Rattle.ds_log.specs.declared.Write.TheVariants.{Put, Delete}
use Rattle.ds_log.specs.Conflicts.{conflict_of, IsCommitted}
use Rattle.ds_log.specs.Ids.{first_unissued}
use Rattle.ds_log.specs.Shards.{shard_of}
use Rattle.ds_request.specs.declared.call.Call.{Call}
use Rattle.ds_request.specs.declared.call.Call.TheVariants as call
use Rattle.ds_request.specs.declared.call.Request.{Request}
use Rattle.ds_reply.specs.declared.reply.WriteAt.{WriteAt}
use Rattle.ds_reply.specs.declared.reply.WriteAt.TheVariants as at
use Rattle.ds_reply.specs.declared.reply.Body.{Body}
use Rattle.ds_reply.specs.declared.reply.Body.TheVariants as body
use Rattle.ds_reply.specs.declared.reply.Reply.{Reply}
use Rattle.ds_rounds.specs.Rounds.{NumberedLine}
use Rattle.ds_model.specs.Asked.{Search, Reading, client_of, search_of}
use Rattle.ds_model.specs.Groups.{IsSeenPlace, StandsAt, ReadsAt, place_in, touching, touching_if, writing, with_transaction}
use Rattle.ds_model.specs.Refusals.{Told, BeforeFirst, Behind, Places, PlacesRead, IfUnrefused, refusal_of, form_refusal, search_refusal}
use Rattle.ds_model.specs.Results.{Page, result, items_of, entity_of}
use Rattle.ds_model.specs.Sessions.{Session, Transaction, saw_place, saw_counts, saw_shard_count, saw_entries, saw_next, next_above}
use Rattle.ds_model.specs.Sessions.{count_of, list_of}
use Rattle.ds_model.specs.Views.{strong_view, global_view}
use Rattle.ds_model.specs.Worlds.{World, entries_up_to}

-- ---- writes

-- an automatic id is no lower than the shown counter and completes the key; a complete key stays
abbrev pub Completes : Session → Bool → KeyParts → KeyParts → Type 0
Completes s false key printed = printed ≡ key
Completes s true key printed = (id : ℕ) × (s.next_id ≤ id) × (id < greatest_id) × (printed ≡ renumbered key id)

-- outside a transaction a write is a commit of itself alone, which touched nothing, at a number above what the client has seen
pub record CommitsAlone (w : World) (client : ℕ) (s : Session) (write : Write) (n : ℕ) : Type 0 where
  pub later : s.place < n
  pub committed : slice_get w.journal (n - 1) ≡ Some (record { client = client; touched = []; writes = write ∷ [] })

-- a write is committed by itself outside a transaction, and put behind the others inside one, whose touch place is told; each id
-- of its key that is 2^52 or more raises the shown counter above it
abbrev pub WriteAnswers : World → ℕ → Session → Option Transaction → Write → KeyParts → WriteAt → Session → Type 0
WriteAnswers w client s None write key (at.Commit n) after =
    CommitsAlone w client s write n × (after ≡ saw_next (next_above key.elems) (saw_place n s))
WriteAnswers w client s (Some t) write key (at.Place m) after =
    StandsAt w.journal s (place_in (Some t) (root_of key)) m
    × (after ≡ saw_next (next_above key.elems) (saw_place m (with_transaction (Some (writing write (touching (root_of key) m t))) s)))
WriteAnswers w client s _ write key _ after = ⊥

-- a put writes the entity under the key that is told
pub record PutAnswers (w : World) (client : ℕ) (s : Session) (incomplete : Bool) (key : KeyParts) (properties : List Property)
    (printed : KeyParts) (place : WriteAt) (after : Session) : Type 0 where
  pub completed : Completes s incomplete key printed
  pub written : WriteAnswers w client s s.transaction (Put (record { key = printed; properties = properties })) printed place after

-- an id that wasn't issued is the path's first that isn't below the printed counter
pub record IdNotIssuedAnswers (s : Session) (key : KeyParts) (id next : ℕ) (after : Session) : Type 0 where
  pub shown : s.next_id ≤ next
  pub first : first_unissued next key.elems ≡ Some id
  pub raised : after ≡ saw_next next s

-- the counter leaves less than so many ids
pub record IdsExhaustedAnswers (s : Session) (count next : ℕ) (after : Session) : Type 0 where
  pub shown : s.next_id ≤ next
  pub beyond : greatest_id < next + count
  pub raised : after ≡ saw_next next s

-- so many ids from the first one on
pub record AllocateAnswers (s : Session) (count first : ℕ) (after : Session) : Type 0 where
  pub shown : s.next_id ≤ first
  pub within : first + count ≤ greatest_id
  pub raised : after ≡ saw_next (first + count) s

-- ---- strong reads

-- a strong read of a group at place m has applied the entries of its shard up to there; inside a transaction it touches the group
abbrev pub saw_group : World → KeyParts → ℕ → Session → Session
saw_group w g m s =
    saw_entries (shard_of g w.shards) (entries_up_to w m (shard_of g w.shards))
    (saw_place m (with_transaction (touching_if g m s.transaction) s))

-- a get tells the entity of its key in the strong view at the place, if there is one
pub record GetAnswers (w : World) (s : Session) (key : KeyParts) (found : Option EntityParts) (m : ℕ) (after : Session) : Type 0 where
  pub place : ReadsAt w.journal s (root_of key) m
  pub exact : found ≡ entity_of (strong_view w.journal m) key
  pub seen : after ≡ saw_group w (root_of key) m s

-- inside a transaction, the versions of the group's place are gone: so many entries were applied that the window doesn't reach back
-- to those up to the place. The transaction has ended.
pub record ExpiredAnswers (w : World) (s : Session) (g : KeyParts) (applied m snapshot : ℕ) (after : Session) : Type 0 where
  pub inside : Transaction
  pub has : s.transaction ≡ Some inside
  pub place : ReadsAt w.journal s g m
  pub entries : snapshot ≡ entries_up_to w m (shard_of g w.shards)
  pub window : ℕ
  pub windowed : w.window ≡ Some window
  pub gone : snapshot + window ≤ applied
  pub no_lower : count_of s.counts (shard_of g w.shards) ≤ applied
  pub applied_within : applied ≤ length (list_of w.lists (shard_of g w.shards))
  pub seen : after ≡ saw_shard_count w.lists (shard_of g w.shards) applied (saw_place m (with_transaction None s))

-- ---- counts

-- shard by shard, the printed count is no lower than the session's count, no lower than the least one for that shard, and no higher than
-- the shard's list is long
abbrev pub CountsWithin : (ℕ → ℕ) → ℕ → List ℕ → List (List Entry) → List ℕ → Type 0
CountsWithin least shard [] [] [] = ⊤
CountsWithin least shard (c ∷ others) (entries ∷ lists) (count ∷ counts) =
    (c ≤ count) × (least shard ≤ count) × (count ≤ length entries) × CountsWithin least (shard + 1) others lists counts
CountsWithin least shard _ _ _ = ⊥

-- a settle stands at a place that the client may see, and each shard has applied at least all entries up to it
pub record SettleAnswers (w : World) (s : Session) (m : ℕ) (counts : List ℕ) (after : Session) : Type 0 where
  pub place : IsSeenPlace w.journal s m
  pub applied : CountsWithin (entries_up_to w m) 0 s.counts w.lists counts
  pub seen : after ≡ saw_counts w.lists counts (saw_place m s)

-- with true the count rose, to at most the shard's entries up to the place; with false it didn't fall, and is at least their number
abbrev pub AppliedCount : Bool → ℕ → ℕ → ℕ → Type 0
AppliedCount true before up_to count = (before < count) × (count ≤ up_to)
AppliedCount false before up_to count = (before ≤ count) × (up_to ≤ count)

pub record ApplyAnswers (w : World) (s : Session) (shard : ℕ) (applied : Bool) (count m : ℕ) (after : Session) : Type 0 where
  pub place : IsSeenPlace w.journal s m
  pub counted : AppliedCount applied (count_of s.counts shard) (entries_up_to w m shard) count
  pub within : count ≤ length (list_of w.lists shard)
  pub seen : after ≡ saw_shard_count w.lists shard count (saw_place m s)

-- ---- transactions

abbrev pub begun : Bool → Transaction
begun several_groups = record { several_groups = several_groups; touched = []; writes = [] }

abbrev pub commit_of : ℕ → Transaction → Commit
commit_of client t = record { client = client; touched = t.touched; writes = t.writes }

-- the transaction's commit: no commit before it wrote one of its groups after the group's touch place
pub record CommitAnswers (w : World) (client : ℕ) (s : Session) (t : Transaction) (n : ℕ) (after : Session) : Type 0 where
  pub later : s.place < n
  pub committed : slice_get w.journal (n - 1) ≡ Some (commit_of client t)
  pub serial : IsCommitted (take (n - 1) w.journal) (commit_of client t)
  pub ended : after ≡ saw_place n (with_transaction None s)

-- the first touched group that a commit after its touch place wrote, as the journal stood at the place of the check
pub record ConflictAnswers (w : World) (s : Session) (t : Transaction) (commit : ℕ) (group : KeyParts) (m : ℕ) (after : Session)
    : Type 0 where
  pub place : IsSeenPlace w.journal s m
  pub turn : ℕ
  pub conflict : conflict_of (take m w.journal) t.touched ≡ Some (record { group = turn; commit = commit; place = m })
  pub touched : ℕ
  pub named : slice_get t.touched turn ≡ Some (record { group = group; place = touched })
  pub ended : after ≡ saw_place m (with_transaction None s)

abbrev pub TransactionAnswers : World → ℕ → Session → Option Transaction → Body → Session → Type 0
TransactionAnswers w client s (Some t) (body.Commit n) after = CommitAnswers w client s t n after
TransactionAnswers w client s (Some t) (body.Conflict commit group m) after = ConflictAnswers w s t commit group m after
TransactionAnswers w client s _ _ after = ⊥

-- ---- requests that aren't queries

-- the answers to a request that nothing before refuses; each pair that isn't listed is none
abbrev pub CallAnswers : World → ℕ → Session → Call → Body → Session → Type 0
CallAnswers w client s (call.Put key incomplete properties) (body.Put printed place) after =
    PutAnswers w client s incomplete key properties printed place after
CallAnswers w client s (call.Put key incomplete properties) (body.IdNotIssued id next) after = IdNotIssuedAnswers s key id next after
CallAnswers w client s (call.Put key incomplete properties) (body.IdsExhausted next) after =
    (incomplete ≡ true) × (first_unissued next key.elems ≡ None) × IdsExhaustedAnswers s 1 next after
CallAnswers w client s (call.Delete key) (body.Delete printed place) after =
    (printed ≡ key) × WriteAnswers w client s s.transaction (Delete key) key place after
CallAnswers w client s (call.Delete key) (body.IdNotIssued id next) after = IdNotIssuedAnswers s key id next after
CallAnswers w client s (call.Get key) (body.Get found m) after = GetAnswers w s key found m after
CallAnswers w client s (call.Get key) (body.Expired applied m snapshot) after = ExpiredAnswers w s (root_of key) applied m snapshot after
CallAnswers w client s (call.Begin several_groups) body.Begin after = after ≡ with_transaction (Some (begun several_groups)) s
CallAnswers w client s call.Commit said after = TransactionAnswers w client s s.transaction said after
CallAnswers w client s call.Rollback body.Rollback after = after ≡ with_transaction None s
CallAnswers w client s call.Settle (body.Settle m counts) after = SettleAnswers w s m counts after
CallAnswers w client s (call.AllocateIds count) (body.AllocateIds first printed) after =
    (printed ≡ count) × AllocateAnswers s count first after
CallAnswers w client s (call.AllocateIds count) (body.IdsExhausted next) after = IdsExhaustedAnswers s count next after
CallAnswers w client s (call.Apply shard) (body.Apply applied count m printed) after =
    (printed ≡ shard) × ApplyAnswers w s shard applied count m after
CallAnswers w client s _ _ after = ⊥

-- ---- queries

abbrev pub place_found : Told → Option Place
place_found (Behind place) = Some place
place_found _ = None

-- The window of a search. An end at the place before the first row leaves nothing, so it is told as a limit of no results.
abbrev pub window_of : Search → Places → Window
window_of search places = ending_at places.end where
  ending_at : Told → Window
  ending_at BeforeFirst = record { start = place_found places.start; end = None; offset = 0; limit = Some 0 }
  ending_at _ = record { start = place_found places.start; end = place_found places.end; offset = search.offset; limit = search.limit }

-- what a query found over a list of entities
abbrev pub page_over : Search → Places → List EntityParts → Page
page_over search places = result (normal_form search.query) (window_of search places)

-- the cursor of the next place, where it was asked for; a query with `!=` or `in` that asks for one is refused before
abbrev pub cursor_of : Bool → List Branch → Option Place → Option (List ℕ)
cursor_of true (q ∷ []) next = Some (cursor_text q next)
cursor_of _ _ next = None

-- the results and the cursor of a search over a list of entities
pub record Finds (search : Search) (places : Places) (entities : List EntityParts) (selected : Select) (results : List Item)
    (cursor : Option (List ℕ)) : Type 0 where
  pub select : selected ≡ search.query.select
  pub exact : results ≡ items_of (normal_form search.query).merged selected entities (page_over search places entities).rows
  pub next : cursor ≡ cursor_of search.cursor (normal_form search.query).branches (page_over search places entities).next

-- with an ancestor a query reads the strong view at a place, and without one the counted entries
abbrev pub FoundOver : World → Session → Search → Places → Option KeyParts → Select → List Item → Seen → Option (List ℕ) → Session
    → Type 0
FoundOver w s search places None selected results (seen.Counts counts) cursor after =
    CountsWithin (λ shard. 0) 0 s.counts w.lists counts
    × Finds search places (global_view w.lists counts) selected results cursor
    × (after ≡ saw_counts w.lists counts s)
FoundOver w s search places (Some ancestor) selected results (seen.Place m) cursor after =
    ReadsAt w.journal s (root_of ancestor) m
    × Finds search places (strong_view w.journal m) selected results cursor
    × (after ≡ saw_group w (root_of ancestor) m s)
FoundOver w s search places _ selected results _ cursor after = ⊥

abbrev pub ExpiredUnder : World → Session → Option KeyParts → ℕ → ℕ → ℕ → Session → Type 0
ExpiredUnder w s None applied m snapshot after = ⊥
ExpiredUnder w s (Some ancestor) applied m snapshot after = ExpiredAnswers w s (root_of ancestor) applied m snapshot after

-- the answers to a query or a statement that nothing before refuses
abbrev pub SearchAnswers : World → Session → Call → Search → Places → Body → Session → Type 0
SearchAnswers w s (call.Query namespace kind ancestor filters orders select offset limit start end cursor) search places
    (body.Query selected results seen told) after =
    FoundOver w s search places search.query.ancestor selected results seen told after
SearchAnswers w s (call.Gql namespace text args names start end cursor) search places
    (body.Gql selected results seen told) after =
    FoundOver w s search places search.query.ancestor selected results seen told after
SearchAnswers w s c search places (body.Expired applied m snapshot) after =
    ExpiredUnder w s search.query.ancestor applied m snapshot after
SearchAnswers w s c search places _ after = ⊥

-- ---- one reply

-- a refusal that the line and the session before decide changes nothing
abbrev pub Refuses : Body → Session → Body → Session → Type 0
Refuses refusal s said after = (said ≡ refusal) × (after ≡ s)

-- the refusal where there is one, else these answers
abbrev pub UnlessRefused : Option Body → Session → Body → Session → Type 0 → Type 0
UnlessRefused (Some refusal) s said after answers = Refuses refusal s said after
UnlessRefused None s said after answers = answers

-- a search is refused by its form and its places, or answered
pub record SearchRefusedOrAnswered (w : World) (s : Session) (c : Call) (search : Search) (said : Body) (after : Session) : Type 0 where
  pub places : Places
  pub read : IfUnrefused (form_refusal s search.query) (PlacesRead (normal_form search.query).branches search places)
  pub answered : UnlessRefused (search_refusal w.definitions s search places) s said after
      (SearchAnswers w s c search places said after)

-- the answers to a request: to one that isn't a query, to a statement that can't be read, and to a search
abbrev pub RequestAnswers : World → ℕ → Session → Call → Option (Result Search Body) → Body → Session → Type 0
RequestAnswers w client s c None said after =
    UnlessRefused (refusal_of w.definitions s c) s said after (CallAnswers w client s c said after)
RequestAnswers w client s c (Some (Err refusal)) said after = Refuses refusal s said after
RequestAnswers w client s c (Some (Ok search)) said after = SearchRefusedOrAnswered w s c search said after

-- the answers to what was read from a line: its refusal, or those to its request
abbrev pub AskedAnswers : World → Session → Result Request (ℕ × Body) → Body → Session → Type 0
AskedAnswers w s (Err e) said after = Refuses e.1 s said after
AskedAnswers w s (Ok r) said after = RequestAnswers w r.client s r.call (search_of r.call) said after

-- lack of memory is free, and changes nothing that the client has seen
abbrev pub BodyAnswers : World → Session → Result Request (ℕ × Body) → Body → Session → Type 0
BodyAnswers w s line body.NoMemory after = after ≡ s
BodyAnswers w s line said after = AskedAnswers w s line said after

-- one reply to one line
pub record Answers (reading : Reading) (w : World) (s : Session) (line : NumberedLine) (reply : Reply) (after : Session)
    : Type 0 where
  pub numbered : reply.line ≡ line.number
  pub addressed : reply.client ≡ client_of reading line.content
  pub said : BodyAnswers w s (reading line.content) reply.body after
