-- What is due of queries and statements is what the definitions answer.
use Rattle.ds_machine.proofs.Words.{nat_tests, ◌≡◌, ◌⊎◌, inl, inr, ℕ, ◌+◌, ◌<◌, ◌≤◌, Bool, true, false, List, [], ◌∷◌, length, take, map}
use Rattle.ds_machine.proofs.Words.{refl, ap, sym, ◌∙◌, subst, arith, Option, Some, None, Ok, is_some, option_map, Seen, EntityParts}
use Rattle.ds_machine.proofs.Words.{KeyParts, root_of, Commit, Entry, shard_of, Normal, Window, Call, Body, AreCounts, shard_view}
use Rattle.ds_machine.proofs.Words.{shard_views, sorted_by_key, counted_place-within, BodyAnswers, CountsWithin, RequestAnswers, cursor_of}
use Rattle.ds_machine.proofs.Words.{search_of, ancestor_group_refusal, items_of, result, Session, counted_place, list_of, World}
use Rattle.ds_machine.proofs.Words.{shard_lists, Ready, Search, found, IsInside, IsRefused, search_parts, CountsSeen, Effect, GroupRead}
use Rattle.ds_machine.proofs.Words.{IsDuePlan, IsAllowed, session_after, store_after, told_over, GatheredParts, IsPulled, IsRefusal}
use Rattle.ds_machine.proofs.Words.{is_quiet, AreUpTo, IsState, StateParts, world, is_key, entry_writes, AppliedParts, Follows, Finds}
use Rattle.ds_machine.proofs.Words.{FoundOver, Page, AreByKey, found_of, row_parts, IsSearchOf, IsGroupSearch, IsPrepared}
use Rattle.std.specs.Cmp.{on_total}
use Rattle.ds_entity.specs.declared.results.Item.{Item}
use Rattle.ds_base.specs.KeyOrderLaws.{key_cmp-total}
use Rattle.ds_base.specs.SortingLaws.{IsSorted-sorted_by}
use Rattle.ds_bytes.specs.Rows.{RowParts}
use Rattle.ds_log.specs.After.{after}
use Rattle.ds_query.specs.declared.row.Place.{Place}
use Rattle.ds_query.specs.declared.row.Row.{Row}
use Rattle.ds_pages.specs.Pages.{with_places}
use Rattle.ds_pages.specs.Places.{placed}
use Rattle.ds_applied.specs.ByKey.{KeysDiffer}
use Rattle.ds_applied.proofs.GlobalResults.{global_result, global_items, global_differ}
use Rattle.ds_applied.proofs.StrongViews.{strong_result, strong_items}
use Rattle.ds_model.proofs.AncestorResults.{HaveAncestor, normal_have}
use Rattle.ds_model.specs.Views.{global_view, strong_view}
use Rattle.ds_protocol.proofs.SearchReplies.{search_found, search_group_refused, search_refused}
use Rattle.ds_machine.specs.Told.{IsGroupRead}
use Rattle.ds_entity.specs.declared.results.Seen.TheVariants as seen
use Rattle.ds_reply.specs.declared.reply.Body.TheVariants as body
use Rattle.ds_effects.specs.declared.effect.Effect.TheVariants as effect
use Rattle.ds_machine.proofs.Plans.{due_here, due_said, keeps-quiet}
use Rattle.ds_machine.proofs.ReadPlans.{lists_are, may_read, place_there, read_seen, shard_there, view_is_strong}

-- ---- pages

unplaced : (columns : List _) (rs : List RowParts) → map row_parts (map (placed columns) rs) ≡ rs
unplaced columns [] = refl
unplaced columns (r ∷ rs) = ap (λ xs. r ∷ xs) (unplaced columns rs)

-- what is told of a page is told of the results
pub told_page : (r : Search) (n : Normal) (w : Window) (es : List EntityParts) (rows : List Row) (next told : Option Place) (sn : Seen)
    → record { rows = rows; next = next } ≡ with_places n.merged (result n w es) → told ≡ next
    → found_of r n es rows told sn ≡ told_over r n w es sn
told_page r n w es rows next told sn page same =
    let given : map row_parts rows ≡ (result n w es).rows = ap (λ (p : _). map row_parts p.rows) page
    ∙ unplaced n.merged (result n w es).rows in
    let goes_on : told ≡ (result n w es).next = same ∙ ap (λ (p : _). p.next) page in rw (given, goes_on) refl

-- entities that were put in order stand by key
pub by_key : (xs es : List EntityParts) → xs ≡ sorted_by_key es → AreByKey xs
by_key xs es is = subst AreByKey (sym is) (IsSorted-sorted_by (on_total (λ (e : EntityParts). e.key) key_cmp-total) es)

pub view_by_key : (xs : List EntityParts) (lists : List (List Entry)) (shard count : ℕ) → xs ≡ shard_view lists shard count → AreByKey xs
view_by_key xs lists shard count is = by_key xs (after (entry_writes (take count (list_of lists shard)))) is

-- the entities of all shards by key
pub all_by_key : (journal : List Commit) (a : AppliedParts) (counts : List ℕ) (visible items : List EntityParts) → Follows journal a
    → visible ≡ shard_views a.lists counts → (KeysDiffer visible → items ≡ sorted_by_key visible)
    → items ≡ sorted_by_key (shard_views a.lists counts)
all_by_key journal a counts visible items follows views is =
    is (subst KeysDiffer (sym views) (global_differ journal a counts follows)) ∙ ap sorted_by_key views

-- ---- what is found

same_told : (r : Search) (n : Normal) (w : Window) (es fs : List EntityParts) (sn : Seen) → result n w es ≡ result n w fs
    → items_of n.merged r.query.select es (result n w fs).rows ≡ items_of n.merged r.query.select fs (result n w fs).rows
    → told_over r n w es sn ≡ told_over r n w fs sn
same_told r n w es fs sn pages items =
    ap (λ (p : Page). found r.statement r.query.select (items_of n.merged r.query.select es p.rows) sn
    (cursor_of r.cursor n.branches p.next)) pages
    ∙ ap (λ told. found r.statement r.query.select told sn (cursor_of r.cursor n.branches (result n w fs).next)) items

counts_within : (shard : ℕ) (others : List ℕ) (lists : List (List Entry)) (counts : List ℕ) → AreUpTo others counts → AreCounts lists counts
    → CountsWithin (λ k. 0) shard others lists counts
counts_within shard [] [] [] up are = tt
counts_within shard (c ∷ others) (es ∷ lists) (n ∷ counts) up are =
    (up.0, omega arith, are.0, counts_within (shard + 1) others lists counts up.1 are.1)
counts_within shard [] lists (n ∷ counts) up are = absurd up
counts_within shard [] (es ∷ lists) [] up are = absurd are
counts_within shard (c ∷ others) lists [] up are = absurd up
counts_within shard (c ∷ others) [] (n ∷ counts) up are = absurd are

-- ---- the group of a search

rooted : (k : KeyParts) → is_key k ≡ true → 1 ≤ length k.elems
rooted k is = grind (arith, nat_tests)

first_there : {A : Type 0} (xs : List A) → 1 ≤ length (take 1 xs) → 1 ≤ length xs
first_there [] some = some
first_there (x ∷ xs) some = omega arith

pub group_search : (st : StateParts) (s : Session) (g : GatheredParts) (r : Search) (read : GroupRead) (group : KeyParts)
    → Some group ≡ option_map root_of r.query.ancestor → IsGroupRead st s g group read → IsGroupSearch st s r read
group_search st s g r read group is reads = by r.query.ancestor refl is where
  by : (o : Option KeyParts) → r.query.ancestor ≡ o → Some group ≡ option_map root_of o → IsGroupSearch st s r read
  by None has none = cc
  by (Some ancestor) has some =
      let same : group ≡ root_of ancestor = cc in
      let there : IsGroupRead st s g (root_of ancestor) read = subst (λ k. IsGroupRead st s g k read) same reads in record {
        ancestor = ancestor;
        has = has;
        some = first_there ancestor.elems (rooted (root_of ancestor) there.lawful);
        allowed = there.allowed;
        stands = there.stands;
        reached = there.reached;
      }

-- ---- what is due

module _ (st : StateParts) (s : Session) (client : ℕ) (c : Call) (r : Search) (of : IsSearchOf c r) where
  -- a refusal before the group is looked at
  pub form_due : (b : Body) (inside : Bool) → (b ≡ body.NoMemory) ⊎ IsRefused st.store.definitions inside (search_parts r) b
      → IsInside inside s → is_quiet b ≡ true → IsDuePlan st s client c [] b effect.Nothing
  form_due b inside (inl is) i quiet = inl is
  form_due b inside (inr is) i quiet = inr (due_said st s client c b (Some (Ok (search_parts r))) quiet of.exact
      (λ window. search_refused (world st.store window) s c (search_parts r) inside b is i))

  module _ (ready : Ready) (prepared : IsPrepared st s r ready) where
    -- one of its group, if it has an ancestor
    pub ancestor_due : (b : Body) → IsRefusal (ancestor_group_refusal s.transaction r.query.ancestor) (Some b) → is_quiet b ≡ true
        → IsDuePlan st s client c [] b effect.Nothing
    ancestor_due b (inr told) quiet = inl cc
    ancestor_due b (inl told) quiet = inr (due_said st s client c b (Some (Ok (search_parts r))) quiet of.exact (λ window.
        search_group_refused (world st.store window) s c (search_parts r) (is_some s.transaction) ready.normal ready.window b prepared.form
        refl (sym told)))

    -- what is found among entities, and the cursor behind it
    abbrev items : List EntityParts → List Item
    items es = items_of ready.normal.merged r.query.select es (result ready.normal ready.window es).rows

    abbrev behind : List EntityParts → Option (List ℕ)
    behind es = cursor_of r.cursor ready.normal.branches (result ready.normal ready.window es).next

    found_due : (es : List EntityParts) (sn : Seen) (e : Effect) → store_after e st.store ≡ st.store → IsAllowed e st s
        → ancestor_group_refusal s.transaction r.query.ancestor ≡ None
        → ((window : Option ℕ) → FoundOver (world st.store window) s (search_parts r) prepared.form.places r.query.ancestor r.query.select
        (items es) sn (behind es) (session_after e st.store s))
        → IsDuePlan st s client c [] (told_over r ready.normal ready.window es sn) e
    found_due es sn e same allowed group over =
        inr (due_here st s client c (told_over r ready.normal ready.window es sn) e same
        (keeps-quiet st.store.next c (told_over r ready.normal ready.window es sn) (quiet r.statement)) allowed (λ window.
        told r.statement (world st.store window) (subst (λ o. RequestAnswers (world st.store window) client s c o
        (told_over r ready.normal ready.window es sn) (session_after e st.store s)) (sym of.exact)
        (search_found (world st.store window) s c r (is_some s.transaction) ready.normal ready.window prepared.form r.query.select (items es)
        sn (behind es) (session_after e st.store s) of refl group (over window)))))
      where
        quiet : (b : Bool) → is_quiet (found b r.query.select (items es) sn (behind es)) ≡ true
        quiet true = refl
        quiet false = refl

        -- what was found is no lack of memory
        told : (b : Bool) (w : World)
            → RequestAnswers w client s c (search_of c) (found b r.query.select (items es) sn (behind es)) (session_after e st.store s)
            → BodyAnswers w s (Ok (record { client = client; call = c })) (found b r.query.select (items es) sn (behind es))
            (session_after e st.store s)
        told true w answers = answers
        told false w answers = answers

    finds_in : (es : List EntityParts) → Finds (search_parts r) prepared.form.places es r.query.select (items es) (behind es)
    finds_in es = rw (prepared.form.normal_is, prepared.form.window_is) (record { select = refl; exact = refl; next = refl })

    module _ (is : IsState st) (read : GroupRead) (g : IsGroupSearch st s r read) where
      abbrev strong : List EntityParts
      strong = strong_view st.store.journal read.place

      pub group_due : (b : Body) → b ≡ told_over r ready.normal ready.window (shard_view st.applied.lists read.shard read.entries)
          (seen.Place read.place) → IsDuePlan st s client c [] b (effect.ReadGroup read)
      group_due b told = rw (told ∙ ap (λ es. told_over r ready.normal ready.window es (seen.Place read.place))
          (view_is_strong st s is (root_of g.ancestor) read g.reached)
          ∙ same_told r ready.normal ready.window _ strong (seen.Place read.place)
          (strong_result st.store.journal st.applied read.place g.ancestor is.follows at_place at_shard g.some ready.normal ready.window has)
          (strong_items st.store.journal st.applied read.place g.ancestor is.follows at_place at_shard g.some ready.normal ready.window
          ready.normal.merged r.query.select has))
          (found_due strong (seen.Place read.place) (effect.ReadGroup read) refl
          (may_read st s is (root_of g.ancestor) read g.reached g.allowed)
          (ap (ancestor_group_refusal s.transaction) g.has ∙ g.allowed)
          (λ window. subst (λ o. FoundOver (world st.store window) s (search_parts r) prepared.form.places o r.query.select (items strong)
          (seen.Place read.place) (behind strong) (session_after (effect.ReadGroup read) st.store s)) (sym g.has)
          (g.stands, finds_in strong, read_seen st s is (root_of g.ancestor) read g.reached window)))
        where
          at_place : read.place ≤ st.applied.commits
          at_place = place_there st s is (root_of g.ancestor) read g.reached

          at_shard : shard_of (root_of g.ancestor) st.applied.shards < st.applied.shards
          at_shard = shard_there st s is (root_of g.ancestor) read g.reached

          has : HaveAncestor g.ancestor ready.normal.branches
          has = rw prepared.form.normal_is (normal_have r.query g.ancestor g.has)

    module _ (is : IsState st) (pulled : IsPulled st) (none : r.query.ancestor ≡ None) (sees : CountsSeen)
        (risen : AreUpTo s.counts sees.counts) (within : AreUpTo sees.counts st.applied.counts)
        (listed : AreCounts st.applied.lists sees.counts) (commit : sees.commit ≡ counted_place st.applied.lists sees.counts) where
      abbrev global : List EntityParts
      global = global_view st.applied.lists sees.counts

      pub all_due : (b : Body) → b ≡ told_over r ready.normal ready.window (sorted_by_key (shard_views st.applied.lists sees.counts))
          (seen.Counts sees.counts) → IsDuePlan st s client c [] b (effect.SeeCounts sees)
      all_due b told = rw (told ∙ same_told r ready.normal ready.window (sorted_by_key (shard_views st.applied.lists sees.counts)) global
          (seen.Counts sees.counts)
          (global_result st.store.journal st.applied sees.counts is.follows ready.normal ready.window)
          (global_items st.store.journal st.applied sees.counts is.follows ready.normal.merged r.query.select
          (result ready.normal ready.window global).rows))
          (found_due global (seen.Counts sees.counts) (effect.SeeCounts sees) refl
          (record { commit = omega (arith, commit, counted_place-within st.store.journal st.applied sees.counts is.follows); counts = within })
          (ap (ancestor_group_refusal s.transaction) none) (λ window. subst (λ o. FoundOver (world st.store window) s (search_parts r)
          prepared.form.places o r.query.select (items global) (seen.Counts sees.counts) (behind global)
          (session_after (effect.SeeCounts sees) st.store s)) (sym none) (
            subst (λ lists. CountsWithin (λ k. 0) 0 s.counts lists sees.counts) lists
                (counts_within 0 s.counts st.applied.lists sees.counts risen listed),
            subst (λ lists. Finds (search_parts r) prepared.form.places (global_view lists sees.counts) r.query.select (items global)
                (behind global)) lists (finds_in global),
            rw (commit ∙ ap (λ lists. counted_place lists sees.counts) lists) refl,
          )))
        where
          lists : st.applied.lists ≡ shard_lists st.store.shards st.store.journal
          lists = lists_are st is pulled
