-- What the store found, as the answer to a search that was made ready, and the steps that it took.
use Rattle.std.proofs.Common.{◌≡◌, ◌⊎◌, inl, inr, ℕ, zero, ◌+◌, ◌*◌, ◌<◌, ◌≤◌, List, [], ◌∷◌, length, map, refl, ap, sym, ◌∙◌, subst, arith}
use Rattle.std.proofs.Common.{Bool, true, false, Option, Some, None}
use Rattle.std.specs.Prelude.{All, IsTrue, Ok, is_some}
use Rattle.std.specs.Option.{option_map}
use Rattle.ds_entity.specs.declared.results.Item.{Item}
use Rattle.ds_entity.specs.declared.results.Seen.{Seen}
use Rattle.ds_entity.specs.declared.results.Seen.TheVariants as looked
use Rattle.ds_base.specs.Keys.{KeyParts, root_of}
use Rattle.ds_indexdef.specs.declared.IndexDef.{IndexDef}
use Rattle.ds_log.specs.declared.Entry.{Entry}
use Rattle.ds_log.specs.Shards.{shard_of}
use Rattle.ds_planner.specs.declared.planned.ScanPlan.{ScanPlan}
use Rattle.ds_query.specs.declared.query.Select.{Select}
use Rattle.ds_query.specs.declared.branch.Branch.{Branch}
use Rattle.ds_query.specs.declared.branch.Normal.{Normal}
use Rattle.ds_query.specs.declared.branch.Window.{Window}
use Rattle.ds_query.specs.declared.conditions.Conditions.{Conditions}
use Rattle.ds_query.specs.declared.row.Place.{Place}
use Rattle.ds_query.specs.Branching.{conditions, branch_of}
use Rattle.ds_query.specs.Lawful.{IsLawfulNormal}
use Rattle.ds_query.specs.Normals.{normal_form}
use Rattle.ds_request.specs.declared.call.Request.{Request}
use Rattle.ds_reply.specs.declared.reply.Body.{Body}
use Rattle.ds_reply.specs.declared.reply.Body.TheVariants as body
use Rattle.ds_model.specs.Answers.{Finds, cursor_of, window_of}
use Rattle.ds_model.specs.Groups.{group_refusal, touching_if, with_transaction}
use Rattle.ds_model.specs.Refusals.{IfUnrefused, PlacesRead, ancestor_group_refusal}
use Rattle.ds_model.specs.Sessions.{Session, Transaction, counted_place, list_of, saw_counts, saw_entries}
use Rattle.ds_model.specs.Sessions.{saw_place, saw_shard_count}
use Rattle.ds_model.specs.Views.{global_view, strong_view}
use Rattle.ds_protocol.specs.declared.searching.Search.{Search}
use Rattle.ds_protocol.specs.Finishing.{found}
use Rattle.ds_protocol.specs.Preparing as protocol
use Rattle.ds_protocol.specs.Refused.{IsRefusal}
use Rattle.ds_protocol.specs.Preparing.{IsReady}
use Rattle.ds_protocol.specs.Searches.{IsSearchOf, search_parts}
use Rattle.ds_engine.specs.Counted.{FindsGlobally}
use Rattle.ds_engine.specs.Plans as states
use Rattle.ds_engine.specs.Searches.{IsResultOf, ancestor_of, look_ups, most_of, search_bound}
use Rattle.ds_engine.specs.Snapshots.{SnapshotParts, newest, snapshot_of}
use Rattle.ds_store.specs.Answered.{HasReadGroup, IsExpired}
use Rattle.ds_store.specs.Passes.{PassParts, HasRead, counts_of}
use Rattle.ds_store.specs.Searched.{HasCounted}
use Rattle.ds_store.specs.Strong.{IsFoundInGroup}
use Rattle.ds_session_state.specs.Answering.{HasSaid}
use Rattle.ds_session_state.specs.Sessions.{IsWithin, SessionParts}
use Rattle.ds_session_state.specs.Standing.{AskedAt}
use Rattle.ds_session_reads.specs.Steps.{IsWithinSteps, Says, SearchSteps, most_scanned, shards_read, shards_with}
use Rattle.ds_session_reads.specs.Wide.{GoesWide}
use Rattle.ds_session_state.proofs.SayingLaws.{said_after}
use Rattle.ds_session_reads.proofs.SearchLaws as laws
use Rattle.ds_session_reads.proofs.SearchLaws.{IsUnrefused, finds}
use Rattle.ds_session_state.proofs.StandingLaws.{some_of}

-- ---- plans

-- plans that a search was made ready with are plans for its shards
plans_kept : (definitions : List IndexDef) (qs : List Branch) (ps : List ScanPlan) → protocol.ArePlansFor definitions qs ps
    → states.ArePlansFor definitions qs ps
plans_kept definitions [] [] h = tt
plans_kept definitions [] (p ∷ ps) h = absurd h
plans_kept definitions (q ∷ qs) [] h = absurd h
plans_kept definitions (q ∷ qs) (p ∷ ps) h =
    (record { serves = h.0.serves; lean = h.0.lean }, plans_kept definitions qs ps h.1)

pub plans_under : (definitions given : List IndexDef) (qs : List Branch) (ps told : List ScanPlan) → given ≡ definitions → told ≡ ps
    → protocol.ArePlansFor definitions qs ps → states.ArePlansFor given qs told
plans_under definitions given qs ps told is same h =
    subst (λ ds. states.ArePlansFor ds qs told) (sym is)
    (subst (states.ArePlansFor definitions qs) (sym same) (plans_kept definitions qs ps h))

-- ---- over all shards at once

-- of so many shards as the store says
pub goes_in : (w : Window) (shards told : ℕ) (p : PassParts) → told ≡ shards → GoesWide w told p → GoesWide w shards p
goes_in w shards told p same goes = subst (λ n. GoesWide w n p) same goes

-- ---- the first branch

-- what each branch of a search's query selects, and its ancestor, are the query's
module _ (search : Search) (n : Normal) (is_normal : n ≡ normal_form search.query) (lawful : IsLawfulNormal n) where
  pub ancestor_is : ancestor_of n.branches ≡ search.query.ancestor
  ancestor_is = ap (λ (m : Normal). ancestor_of m.branches) is_normal
      ∙ by (conditions search.query.filters) (subst (λ (m : Normal). 0 < length m.branches) is_normal lawful.some) where
        by : (cs : List Conditions) → 0 < length (map (branch_of search.query) cs)
            → ancestor_of (map (branch_of search.query) cs) ≡ search.query.ancestor
        by [] low = absurd (omega arith)
        by (c ∷ cs) low = refl

  bound_selected : (new most results : ℕ) → All (λ (q : Branch). new ≤ most + look_ups q.select results) n.branches
      → new ≤ most + look_ups search.query.select results
  bound_selected new most results all =
      by (conditions search.query.filters) (subst (λ (m : Normal). 0 < length m.branches) is_normal lawful.some)
      (subst (λ (m : Normal). All (λ (q : Branch). new ≤ most + look_ups q.select results) m.branches) is_normal all) where
        by : (cs : List Conditions) → 0 < length (map (branch_of search.query) cs)
            → All (λ (q : Branch). new ≤ most + look_ups q.select results) (map (branch_of search.query) cs)
            → new ≤ most + look_ups search.query.select results
        by [] low all = absurd (omega arith)
        by (c ∷ cs) low all = all zero (branch_of search.query c) (omega arith)

-- what a client has seen once it has read a group at a place with so many entries
abbrev pub saw_read : ℕ → KeyParts → ℕ → ℕ → Session → Session
saw_read shards group m entries s =
    saw_entries (shard_of group shards) entries (saw_place m (with_transaction (touching_if group m s.transaction) s))

-- the ancestor whose group is read
pub ancestor_under : (under : Option KeyParts) (group : KeyParts) → option_map root_of under ≡ Some group
    → (ancestor : KeyParts) × (under ≡ Some ancestor) × (group ≡ root_of ancestor)
ancestor_under None group is = cc
ancestor_under (Some ancestor) group is = let same : group ≡ root_of ancestor = cc in (ancestor, refl, same)

-- a group that isn't refused
pub allowed_of : (refusal told : Option Body) → told ≡ None → IsRefusal refusal told → refusal ≡ None
allowed_of refusal told none (inl same) = sym same ∙ none
allowed_of refusal told none (inr memory) = let apart : None ≡ Some body.NoMemory = sym none ∙ memory in cc

-- the counts that were told, and the commit beside them, raise the client so
pub counts_told : (p q : PassParts) (saw : Seen) (beside commit : ℕ) (counts told : List ℕ) (had : Option Transaction)
    (seen later : Session)
    → HasCounted p q saw beside → saw ≡ looked.Counts counts → commit ≡ beside → told ≡ counts
    → ((lists : List (List Entry)) → commit ≡ counted_place lists told → later ≡ saw_counts lists told seen)
    → with_transaction had later ≡ saw_counts q.lists counts (with_transaction had seen)
counts_told p q saw beside commit counts told had seen later done are same same_counts raised =
    let counted : looked.Counts counts ≡ looked.Counts (counts_of q) = sym are ∙ done.counted.counts in
    let all : counts ≡ counts_of q = cc in
    let last : commit ≡ counted_place q.lists told = same ∙ done.counted.commit ∙ ap (counted_place q.lists) (sym all ∙ sym same_counts) in
    ap (λ (l : Session). with_transaction had l) (raised q.lists last ∙ ap (λ ns. saw_counts q.lists ns seen) same_counts)

-- and so does a read of a group
pub read_seen : (shards : ℕ) (group named : KeyParts) (m shard entries : ℕ) (seen placed later : Session)
    (had has after : Option Transaction)
    → group ≡ named → has ≡ had → shard ≡ shard_of named shards → after ≡ touching_if group m has → placed ≡ saw_place m seen
    → later ≡ saw_entries shard entries placed
    → with_transaction after later ≡ saw_read shards named m entries (with_transaction had seen)
read_seen shards group named m shard entries seen placed later had has after names same numbered touched raised shown =
    ap (λ (l : Session). with_transaction after l)
    (shown ∙ ap (λ (l : Session). saw_entries shard entries l) raised ∙ ap (λ n. saw_entries n entries (saw_place m seen)) numbered)
    ∙ ap (λ o. with_transaction o (saw_entries (shard_of named shards) entries (saw_place m seen)))
    (touched ∙ ap (λ g. touching_if g m has) names ∙ ap (λ o. touching_if named m o) same)

same_found : (b : Bool) → laws.found b ≡ found b
same_found true = refl
same_found false = refl

-- the shard that a search with an ancestor reads
pub group_shards : (definitions : List IndexDef) (window shards : ℕ) (p q : PassParts) (under : Option KeyParts) (ancestor : KeyParts)
    (at : Option ℕ) (n : Normal) (w : Window) (results : List Item) (next : Option Place) (saw : Seen) (entries : ℕ) → under ≡ Some ancestor
    → IsFoundInGroup shards p q (root_of ancestor) at n w results next saw entries
    → shards_read definitions window shards q under saw
    ≡ snapshot_of definitions window (list_of q.lists (shard_of (root_of ancestor) shards)) entries ∷ []
group_shards definitions window shards p q under ancestor at n w results next saw entries is read =
    ap (λ o. shards_read definitions window shards q o saw) is
    ∙ ap (λ o. shards_read definitions window shards q (Some ancestor) o) read.told
    ∙ ap (λ k. snapshot_of definitions window (list_of q.lists (shard_of (root_of ancestor) shards)) k ∷ []) (sym read.read.entries_are)

module _ (definitions : List IndexDef) (shards window number : ℕ) (r : Request) (search : Search) (is : IsSearchOf r.call search)
    (before after : SessionParts) (old new : ℕ) where
  -- a search that took no step
  pub took_none : new ≡ old → IsWithinSteps definitions window shards number (Ok r) before after old new
  took_none same = subst (λ o. SearchSteps definitions window shards number r.call o before after old new) (sym is.exact) (inl same)

same_statement : (r : Request) (search : Search) → IsSearchOf r.call search → laws.is_statement r.call ≡ search.statement
same_statement r search is = sym is.written

module _ (definitions : List IndexDef) (shards window number : ℕ) (r : Request) (search : Search) (is : IsSearchOf r.call search)
    (s : Session) (n : Normal) (w : Window) (ready : IsReady definitions (is_some s.transaction) (search_parts search) n w)
    (lawful : IsLawfulNormal n) where
  -- ---- steps

  -- what was found is told
  pub found_steps : (before after : SessionParts) (old new : ℕ) (results : List Item) (saw : Seen) (cursor : Option (List ℕ))
      (read : List SnapshotParts) → shards_read definitions window shards after.pass search.query.ancestor saw ≡ read
      → Says number before after (found search.statement search.query.select results saw cursor)
      → All (λ q. new ≤ (old + search_bound n w (most_of n w) read) + look_ups q.select (length results)) n.branches
      → IsWithinSteps definitions window shards number (Ok r) before after old new
  found_steps before after old new results saw cursor read are told bounds =
      subst (λ o. SearchSteps definitions window shards number r.call o before after old new) (sym is.exact) (inr (inr (inl (record {
        places = ready.places;
        read = ready.read;
        results = results;
        saw = saw;
        cursor = cursor;
        told = subst (λ b. Says number before after (found b search.query.select results saw cursor)) is.written told;
        within = subst (λ sn. new ≤ old + most_scanned (search_parts search) ready.places sn
            + look_ups search.query.select (length results))
            (sym are) (subst (λ v. new ≤ old + search_bound (normal_form search.query) v (most_of (normal_form search.query) v) read
            + look_ups search.query.select (length results)) ready.window_is
            (subst (λ m. new ≤ old + search_bound m w (most_of m w) read + look_ups search.query.select (length results)) ready.normal_is
            (bound_selected search n ready.normal_is lawful new (old + search_bound n w (most_of n w) read) (length results) bounds)));
      }))))

  pub found_steps_from : (before now after : SessionParts) (same : now ≡ before) (old new : ℕ) (results : List Item) (saw : Seen)
      (cursor : Option (List ℕ)) (read : List SnapshotParts)
      → shards_read definitions window shards after.pass search.query.ancestor saw ≡ read
      → Says number now after (found search.statement search.query.select results saw cursor)
      → All (λ q. new ≤ (old + search_bound n w (most_of n w) read) + look_ups q.select (length results)) n.branches
      → IsWithinSteps definitions window shards number (Ok r) before after old new
  found_steps_from before now after same old new results saw cursor read are told bounds =
      subst (λ (v : SessionParts). IsWithinSteps definitions window shards number (Ok r) v after old new) same
      (found_steps now after old new results saw cursor read are told bounds)

  -- unless it went over all shards at once
  pub unless_wide : (before after : SessionParts) (old new : ℕ) (p : PassParts) (wide : Bool) → p ≡ before.pass
      → search.query.ancestor ≡ None → (IsTrue wide → GoesWide w shards p)
      → (wide ≡ false → IsWithinSteps definitions window shards number (Ok r) before after old new)
      → IsWithinSteps definitions window shards number (Ok r) before after old new
  unless_wide before after old new p false is_pass everywhere goes bounded = bounded refl
  unless_wide before after old new p true is_pass everywhere goes bounded =
      subst (λ o. SearchSteps definitions window shards number r.call o before after old new) (sym is.exact) (inr (inr (inr (inr (record {
        places = ready.places;
        read = ready.read;
        everywhere = everywhere;
        wide = subst (λ v. GoesWide v shards before.pass) ready.window_is (subst (GoesWide w shards) is_pass (goes refl));
      })))))

  -- or there was no memory
  pub refused_steps : (before now after : SessionParts) (same : now ≡ before) (old new entries : ℕ) (read : List SnapshotParts)
      → shards_with definitions window shards after.pass search.query.ancestor entries ≡ read
      → Says number now after body.NoMemory → new ≤ old + 2 * search_bound n w None read
      → IsWithinSteps definitions window shards number (Ok r) before after old new
  refused_steps before now after same old new entries read are told bound =
      subst (λ (v : SessionParts). IsWithinSteps definitions window shards number (Ok r) v after old new) same
      (subst (λ o. SearchSteps definitions window shards number r.call o now after old new) (sym is.exact) (inr (inl (record {
        places = ready.places;
        read = ready.read;
        entries = entries;
        told = told;
        within = subst (λ sn. new ≤ old
            + 2 * search_bound (normal_form search.query) (window_of (search_parts search) ready.places) None sn) (sym are)
            (subst (λ v. new ≤ old + 2 * search_bound (normal_form search.query) v None read) ready.window_is
            (subst (λ o. new ≤ old + 2 * search_bound o w None read) ready.normal_is bound));
      }))))

  -- of a search over all shards
  pub refused_in_all : (before now after : SessionParts) (same : now ≡ before) (old new : ℕ) (q : PassParts)
      → search.query.ancestor ≡ None → after.pass ≡ q
      → Says number now after body.NoMemory → new ≤ old + 2 * search_bound n w None (newest definitions window q.lists)
      → IsWithinSteps definitions window shards number (Ok r) before after old new
  refused_in_all before now after same old new q everywhere pass told bound =
      refused_steps before now after same old new 0 (newest definitions window q.lists)
      (ap (λ v. shards_with definitions window shards v search.query.ancestor 0) pass
      ∙ ap (λ o. shards_with definitions window shards q o 0) everywhere) told bound

  -- and of one in a group's shard, as so many of its entries leave it
  abbrev IsWithinEntries : PassParts → KeyParts → ℕ → ℕ → Type 0
  IsWithinEntries q ancestor old new =
      (entries : ℕ) × (new ≤ old + 2 * search_bound n w None
      (snapshot_of definitions window (list_of q.lists (shard_of (root_of ancestor) shards)) entries ∷ []))

  pub refused_there : (before now after : SessionParts) (same : now ≡ before) (old new : ℕ) (q : PassParts) (ancestor : KeyParts)
      → search.query.ancestor ≡ Some ancestor → after.pass ≡ q → Says number now after body.NoMemory
      → IsWithinEntries q ancestor old new → IsWithinSteps definitions window shards number (Ok r) before after old new
  refused_there before now after same old new q ancestor under pass told bound =
      refused_steps before now after same old new bound.0
      (snapshot_of definitions window (list_of q.lists (shard_of (root_of ancestor) shards)) bound.0 ∷ [])
      (ap (λ v. shards_with definitions window shards v search.query.ancestor bound.0) pass
      ∙ ap (λ o. shards_with definitions window shards q o bound.0) under)
      told bound.1

  -- or the versions are gone
  gone_steps : (before now after : SessionParts) (same : now ≡ before) (old new m snapshot applied : ℕ) (read : List SnapshotParts)
      → shards_read definitions window shards after.pass search.query.ancestor (looked.Place m) ≡ read
      → Says number now after (body.Expired applied m snapshot) → new ≤ old + search_bound n w (most_of n w) read
      → IsWithinSteps definitions window shards number (Ok r) before after old new
  gone_steps before now after same old new m snapshot applied read are told bound =
      subst (λ (v : SessionParts). IsWithinSteps definitions window shards number (Ok r) v after old new) same
      (subst (λ o. SearchSteps definitions window shards number r.call o now after old new) (sym is.exact) (inr (inr (inr (inl (record {
        places = ready.places;
        read = ready.read;
        applied = applied;
        m = m;
        snapshot = snapshot;
        told = told;
        within = subst (λ sn. new ≤ old + most_scanned (search_parts search) ready.places sn) (sym are)
            (subst (λ v. new ≤ old + search_bound (normal_form search.query) v (most_of (normal_form search.query) v) read) ready.window_is
            (subst (λ o. new ≤ old + search_bound o w (most_of o w) read) ready.normal_is bound));
      }))))))

  pub gone_steps_from : (before now after : SessionParts) (same : now ≡ before) (old new : ℕ) (p q : PassParts) (ancestor : KeyParts)
      (at : Option ℕ) (snapshot applied commit : ℕ) → search.query.ancestor ≡ Some ancestor → after.pass ≡ q
      → (gone : IsExpired shards window p q (root_of ancestor) at snapshot applied commit)
      → Says number now after body.NoMemory ⊎ Says number now after (body.Expired applied gone.place snapshot)
      → new ≤ old + search_bound n w (most_of n w)
      (snapshot_of definitions window (list_of q.lists (shard_of (root_of ancestor) shards)) snapshot ∷ [])
      → IsWithinEntries q ancestor old new → IsWithinSteps definitions window shards number (Ok r) before after old new
  gone_steps_from before now after same old new p q ancestor at snapshot applied commit under pass gone (inl none) bound in_all =
      refused_there before now after same old new q ancestor under pass none in_all
  gone_steps_from before now after same old new p q ancestor at snapshot applied commit under pass gone (inr told) bound in_all =
      gone_steps before now after same old new gone.place snapshot applied
      (snapshot_of definitions window (list_of q.lists (shard_of (root_of ancestor) shards)) snapshot ∷ [])
      (ap (λ v. shards_read definitions window shards v search.query.ancestor (looked.Place gone.place)) pass
      ∙ ap (λ o. shards_read definitions window shards q o (looked.Place gone.place)) under
      ∙ ap (λ k. snapshot_of definitions window (list_of q.lists (shard_of (root_of ancestor) shards)) k ∷ []) (sym gone.read.entries_are))
      told bound

  -- ---- without an ancestor

  pub counted_said : (p q : PassParts) (results : List Item) (next : Option Place) (saw : Seen) (commit : ℕ) (counts : List ℕ)
      → IsWithin s p → search.query.ancestor ≡ None → HasCounted p q saw commit → saw ≡ looked.Counts counts
      → FindsGlobally q.lists n w results next
      → HasSaid definitions shards (Some window) p q s (saw_counts q.lists counts s) (Ok r)
      (found search.statement search.query.select results saw (cursor_of search.cursor n.branches next))
  counted_said p q results next saw commit counts within everywhere done are globally =
      subst (HasSaid definitions shards (Some window) p q s (saw_counts q.lists counts s) (Ok r)) (
      ap (λ b. laws.found b search.query.select results (looked.Counts counts) (cursor_of search.cursor n.branches next))
      (same_statement r search is)
      ∙ ap (λ (f : Select → List Item → Seen → Option (List ℕ) → Body). f search.query.select results (looked.Counts counts)
      (cursor_of search.cursor n.branches next))
      (same_found search.statement)
      ∙ ap (λ o. found search.statement search.query.select results o (cursor_of search.cursor n.branches next)) (sym are)
      ) (laws.found_in_all definitions shards window r s p q (search_parts search) ready.places is.exact within counts
      search.query.select results (cursor_of search.cursor n.branches next) everywhere fine done.read counted low answered)
    where
      counted : counts ≡ counts_of q
      counted = let same : looked.Counts counts ≡ looked.Counts (counts_of q) = sym are ∙ done.counted.counts in cc

      low : counted_place q.lists counts ≤ q.place
      low =
          let is : commit ≡ counted_place q.lists counts = done.counted.commit ∙ ap (counted_place q.lists) (sym counted) in
          omega (arith, done.place, is)

      fine : IsUnrefused definitions s (search_parts search) ready.places
      fine = record {
        read = subst (λ o. IfUnrefused o (PlacesRead (normal_form search.query).branches (search_parts search) ready.places))
            (sym (ready.formed s refl)) ready.read;
        unrefused = ready.unrefused s refl ∙ ap (ancestor_group_refusal s.transaction) everywhere;
      }

      answered : Finds (search_parts search) ready.places (global_view q.lists counts) search.query.select results
          (cursor_of search.cursor n.branches next)
      answered =
          let told : IsResultOf n w (global_view q.lists counts) results next =
          subst (λ ns. IsResultOf n w (global_view q.lists ns) results next) (sym counted) globally in
          finds (search_parts search) ready.places (global_view q.lists counts) results next n w ready.normal_is ready.window_is
          lawful.some told.told told.place

  -- ---- with one

  -- the search, its group not refused
  group_fine : (ancestor : KeyParts) → search.query.ancestor ≡ Some ancestor → group_refusal s.transaction (Some (root_of ancestor)) ≡ None
      → IsUnrefused definitions s (search_parts search) ready.places
  group_fine ancestor under allowed = record {
    read = subst (λ o. IfUnrefused o (PlacesRead (normal_form search.query).branches (search_parts search) ready.places))
        (sym (ready.formed s refl)) ready.read;
    unrefused = ready.unrefused s refl ∙ ap (ancestor_group_refusal s.transaction) under ∙ allowed;
  }

  module _ (p q : PassParts) (ancestor : KeyParts) (at : Option ℕ) (within : IsWithin s p)
      (under : search.query.ancestor ≡ Some ancestor) (allowed : group_refusal s.transaction (Some (root_of ancestor)) ≡ None)
      (asked : AskedAt at s p (root_of ancestor)) where
    pub group_said : (results : List Item) (next : Option Place) (saw : Seen) (entries m : ℕ) → saw ≡ looked.Place m
        → IsFoundInGroup shards p q (root_of ancestor) at n w results next saw entries
        → HasSaid definitions shards (Some window) p q s
        (saw_read shards (root_of ancestor) m entries s) (Ok r)
        (found search.statement search.query.select results saw (cursor_of search.cursor n.branches next))
    group_said results next saw entries m is_place is_found =
        subst (λ b. HasSaid definitions shards (Some window) p q s (saw_read shards (root_of ancestor) m entries s) (Ok r) b) (
        ap (λ b. laws.found b search.query.select results (looked.Place m) (cursor_of search.cursor n.branches next))
        (same_statement r search is)
        ∙ ap (λ (f : Select → List Item → Seen → Option (List ℕ) → Body). f search.query.select results (looked.Place m)
        (cursor_of search.cursor n.branches next))
        (same_found search.statement)
        ∙ ap (λ o. found search.statement search.query.select results o (cursor_of search.cursor n.branches next)) (sym is_place)
        ) (subst (λ k. HasSaid definitions shards (Some window) p q s (saw_read shards (root_of ancestor) m k s) (Ok r)
        (laws.found (laws.is_statement r.call) search.query.select results (looked.Place m) (cursor_of search.cursor n.branches next)))
        (sym read.entries_are)
        (laws.found_in_group definitions shards window r s p q (search_parts search) ready.places is.exact within ancestor at
        m entries search.query.select results (cursor_of search.cursor n.branches next) under
        (group_fine ancestor under allowed) asked read
        (finds (search_parts search) ready.places (strong_view q.journal m) results next n w ready.normal_is ready.window_is
        lawful.some told.told told.place)))
      where
        same : is_found.place ≡ m
        same = let both : looked.Place is_found.place ≡ looked.Place m = sym is_found.told ∙ is_place in cc

        read : HasReadGroup shards p q (root_of ancestor) at m entries
        read = subst (λ k. HasReadGroup shards p q (root_of ancestor) at k entries) same is_found.read

        told : IsResultOf n w (strong_view q.journal m) results next
        told = subst (λ k. IsResultOf n w (strong_view q.journal k) results next) same is_found.found

    pub gone_said : (t : Transaction) (snapshot applied commit place : ℕ) → s.transaction ≡ Some t → at ≡ Some place
        → IsExpired shards window p q (root_of ancestor) at snapshot applied commit
        → HasSaid definitions shards (Some window) p q s
        (saw_shard_count q.lists (shard_of (root_of ancestor) shards) applied (saw_place place (with_transaction None s))) (Ok r)
        (body.Expired applied place snapshot)
    gone_said t snapshot applied commit place inside is_place gone =
        let same : gone.place ≡ place = let both : Some gone.place ≡ Some place = sym gone.inside ∙ is_place in cc in
        subst (λ m. HasSaid definitions shards (Some window) p q s
        (saw_shard_count q.lists (shard_of (root_of ancestor) shards) applied (saw_place m (with_transaction None s))) (Ok r)
        (body.Expired applied m snapshot)) same
        (laws.search_expired definitions shards window r s p q (search_parts search) ready.places is.exact within ancestor at t snapshot
        applied commit under (group_fine ancestor under allowed) inside asked gone)

    -- the same after earlier calls, told of the transaction as it is once it has room
    pub gone_told : (first : PassParts) (has : Option Transaction) (seen : Session) (shard snapshot applied commit : ℕ) → HasRead first p
        → with_transaction has seen ≡ s → shard ≡ shard_of (root_of ancestor) shards → is_some at ≡ is_some s.transaction
        → (gone : IsExpired shards window p q (root_of ancestor) at snapshot applied commit)
        → HasSaid definitions shards (Some window) first q (with_transaction has seen)
        (saw_shard_count q.lists shard applied (saw_place gone.place (with_transaction None (with_transaction has seen)))) (Ok r)
        (body.Expired applied gone.place snapshot)
    gone_told first has seen shard snapshot applied commit h same numbered inside gone =
        let t = some_of s.transaction (sym inside ∙ ap (λ (o : Option ℕ). is_some o) gone.inside) in
        let later = saw_shard_count q.lists (shard_of (root_of ancestor) shards) applied (saw_place gone.place (with_transaction None s)) in
        subst (λ v. HasSaid definitions shards (Some window) first q v
        (saw_shard_count q.lists shard applied (saw_place gone.place (with_transaction None v))) (Ok r)
        (body.Expired applied gone.place snapshot)) (sym same)
        (subst (λ k. HasSaid definitions shards (Some window) first q s
        (saw_shard_count q.lists k applied (saw_place gone.place (with_transaction None s))) (Ok r)
        (body.Expired applied gone.place snapshot)) (sym numbered)
        (said_after definitions shards (Some window) first p q s later (Ok r) (body.Expired applied gone.place snapshot) h
        (gone_said t.0 snapshot applied commit gone.place t.1 gone.inside gone)))
