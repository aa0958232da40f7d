-- How many steps the answer to a line takes: a search no more than its scans may take over the lists that its pass has then seen, and one
-- for each entity that is given; a get one, of its look-up; and every other line none.
use Rattle.std.specs.Prelude.{◌≡◌, ◌⊎◌, ⊤, ℕ, ◌+◌, ◌*◌, ◌≤◌, ◌++◌, List, [], ◌∷◌, length, Option, Some, None, Result, Ok, Err}
use Rattle.ds_entity.specs.declared.results.Item.{Item}
use Rattle.ds_entity.specs.declared.results.Seen.{Seen}
use Rattle.ds_entity.specs.declared.results.Seen.TheVariants as looked
use Rattle.ds_base.specs.Keys.{KeyParts, root_of}
use Rattle.ds_indexdef.specs.declared.IndexDef.{IndexDef}
use Rattle.ds_log.specs.Shards.{shard_of}
use Rattle.ds_query.specs.Normals.{normal_form}
use Rattle.ds_request.specs.declared.call.Call.{Call}
use Rattle.ds_request.specs.declared.call.Call.TheVariants as call
use Rattle.ds_request.specs.declared.call.Request.{Request}
use Rattle.ds_reply.specs.declared.reply.Body.{Body}
use Rattle.ds_reply.specs.declared.reply.Body.TheVariants as body
use Rattle.ds_reply.specs.Replies.{reply_text}
use Rattle.ds_model.specs.Answers.{window_of}
use Rattle.ds_model.specs.Asked.{Search, search_of}
use Rattle.ds_model.specs.Refusals.{Places, PlacesRead}
use Rattle.ds_model.specs.Sessions.{list_of}
use Rattle.ds_protocol.specs.Finishing.{found}
use Rattle.ds_protocol.specs.Searches.{is_statement}
use Rattle.ds_engine.specs.Searches.{look_ups, most_of, search_bound}
use Rattle.ds_engine.specs.Snapshots.{SnapshotParts, newest, snapshot_of}
use Rattle.ds_store.specs.Answered.{entries_up_to}
use Rattle.ds_store.specs.Passes.{PassParts}
use Rattle.ds_session_state.specs.Sessions.{SessionParts}
use Rattle.ds_session_reads.specs.Wide.{GoesWide}

-- The shards that a search reads: with an ancestor that of the ancestor's group, as the commits up to the printed place leave it, and
-- without one all shards, with all that the pass has seen of them.
abbrev pub shards_read : List IndexDef → ℕ → ℕ → PassParts → Option KeyParts → Seen → List SnapshotParts
shards_read definitions window shards p (Some ancestor) (looked.Place m) =
    snapshot_of definitions window (list_of p.lists (shard_of (root_of ancestor) shards))
    (entries_up_to p.journal shards m (shard_of (root_of ancestor) shards)) ∷ []
shards_read definitions window shards p ancestor saw = newest definitions window p.lists

-- the most steps of the scans of all branches over these shards
abbrev pub most_scanned : Search → Places → List SnapshotParts → ℕ
most_scanned search places =
    search_bound (normal_form search.query) (window_of search places) (most_of (normal_form search.query) (window_of search places))

-- the new reply of the session's text says this
abbrev pub Says : ℕ → SessionParts → SessionParts → Body → Type 0
Says number before after said =
    after.text ≡ before.text ++ reply_text (record { client = before.client; line = number; body = said })

-- The new reply tells what the search found, whose places are those of its texts, and it took no more steps.
pub record FoundWithin (definitions : List IndexDef) (window shards number : ℕ) (c : Call) (search : Search) (before after : SessionParts)
    (old new : ℕ) : Type 0 where
  pub places : Places
  pub read : PlacesRead (normal_form search.query).branches search places
  pub results : List Item
  pub saw : Seen
  pub cursor : Option (List ℕ)
  pub told : Says number before after (found (is_statement c) search.query.select results saw cursor)
  pub within : new ≤ old + most_scanned search places (shards_read definitions window shards after.pass search.query.ancestor saw)
      + look_ups search.query.select (length results)

-- The new reply tells that the versions of its group's touch place are gone, and the search took no more steps than its scans may take
-- there.
pub record GoneWithin (definitions : List IndexDef) (window shards number : ℕ) (search : Search) (before after : SessionParts) (old new : ℕ)
    : Type 0 where
  pub places : Places
  pub read : PlacesRead (normal_form search.query).branches search places
  pub applied : ℕ
  pub m : ℕ
  pub snapshot : ℕ
  pub told : Says number before after (body.Expired applied m snapshot)
  pub within : new ≤ old
      + most_scanned search places (shards_read definitions window shards after.pass search.query.ancestor (looked.Place m))

-- The shards that a search reads where no place is told: with an ancestor that of the ancestor's group, as so many of its entries leave it,
-- and without one all shards, with all that the pass has seen of them.
abbrev pub shards_with : List IndexDef → ℕ → ℕ → PassParts → Option KeyParts → ℕ → List SnapshotParts
shards_with definitions window shards p (Some ancestor) entries =
    snapshot_of definitions window (list_of p.lists (shard_of (root_of ancestor) shards)) entries ∷ []
shards_with definitions window shards p None entries = newest definitions window p.lists

-- The new reply tells that there was no memory, and the search took at most twice as many steps as scans of all rows of its branches may
-- take: with each row that is given, its entity may have been looked up.
pub record RefusedWithin (definitions : List IndexDef) (window shards number : ℕ) (search : Search) (before after : SessionParts)
    (old new : ℕ) : Type 0 where
  pub places : Places
  pub read : PlacesRead (normal_form search.query).branches search places
  pub entries : ℕ
  pub told : Says number before after body.NoMemory
  pub within : new ≤ old
      + 2 * search_bound (normal_form search.query) (window_of search places) None
      (shards_with definitions window shards after.pass search.query.ancestor entries)

-- The search went over all shards at once, each in a thread of its own: of its steps no bound is told.
pub record WentWide (shards : ℕ) (search : Search) (before : SessionParts) : Type 0 where
  pub places : Places
  pub read : PlacesRead (normal_form search.query).branches search places
  pub everywhere : search.query.ancestor ≡ None
  pub wide : GoesWide (window_of search places) shards before.pass

abbrev pub IsGet : Call → Type 0
IsGet (call.Get key) = ⊤
IsGet _ = ⊥

-- a call that searches for nothing takes no step, but a get, whose look-up takes one at most
abbrev pub OtherSteps : Call → ℕ → ℕ → Type 0
OtherSteps c old new = (new ≡ old) ⊎ (IsGet c × (new ≤ old + 1))

-- The steps of what a call searches for: a search that doesn't go over all shards at once is bounded whatever its reply.
abbrev pub SearchSteps : List IndexDef → ℕ → ℕ → ℕ → Call → Option (Result Search Body) → SessionParts → SessionParts → ℕ → ℕ → Type 0
SearchSteps definitions window shards number c None before after old new = OtherSteps c old new
SearchSteps definitions window shards number c (Some (Err refusal)) before after old new = new ≡ old
SearchSteps definitions window shards number c (Some (Ok search)) before after old new =
    (new ≡ old)
    ⊎ (RefusedWithin definitions window shards number search before after old new
    ⊎ (FoundWithin definitions window shards number c search before after old new
    ⊎ (GoneWithin definitions window shards number search before after old new
    ⊎ WentWide shards search before)))

-- the steps of the answer to what was read from a line
abbrev pub IsWithinSteps : List IndexDef → ℕ → ℕ → ℕ → Result Request (ℕ × Body) → SessionParts → SessionParts → ℕ → ℕ → Type 0
IsWithinSteps definitions window shards number (Err e) before after old new = new ≡ old
IsWithinSteps definitions window shards number (Ok r) before after old new =
    SearchSteps definitions window shards number r.call (search_of r.call) before after old new
