-- An open request waits for a step until it is replied to, whatever other clients do.
use Rattle.ds_core.proofs.Words.{◌≡◌, ◌⊎◌, inl, inr, ℕ, ◌+◌, ◌≤◌, Bool, true, false, List, [], ◌∷◌, ◌++◌, length, refl, ap, sym, ◌∙◌}
use Rattle.ds_core.proofs.Words.{subst, cond, Option, Some, None, get_or, IfSome, is_some, option_map, Commit, Session, first_session}
use Rattle.ds_core.proofs.Words.{Request, Operation, Plan, Step, GatheredParts, gathered_by, shown_by, Shown, missing, shown, StateParts}
use Rattle.ds_core.proofs.Words.{Open, Moment, Said, IsDueNow, with_gathered, AreWaiting, Comes, IsQuiet, Takes, open_of, session_of}
use Rattle.ds_core.proofs.Words.{shown_at, Course, HappensAt}
use Rattle.std.proofs.lemmas.List.{take-append-le}
use Rattle.ds_base.specs.Keys.{KeyParts, root_of}
use Rattle.ds_log.specs.Logs.{shard_list}
use Rattle.ds_log.specs.Shards.{shard_of}
use Rattle.ds_applied.specs.AppliedLists.{entries_by}
use Rattle.ds_effects.specs.Gathered.{has_covered}
use Rattle.ds_effects.specs.Taken.{is_commit, is_placed}
use Rattle.ds_machine.specs.Missing.{covers, completed, first_uncovered, is_within, missing_apply, missing_ids, missing_read}
use Rattle.ds_machine.specs.Missing.{missing_search, missing_settle, missing_view, missing_write, place_read, unless, view_or_apply}
use Rattle.ds_core.specs.Takings.{IsWaiting}
use Rattle.ds_reply.specs.declared.reply.Body.TheVariants as body
use Rattle.ds_protocol.specs.declared.operations.Operation.TheVariants as operation
use Rattle.ds_effects.specs.declared.effect.Due.TheVariants as due
use Rattle.ds_effects.specs.declared.gathered.Step.TheVariants as steps
use Rattle.ds_core.proofs.Taken.{adds-some, is-moved, others-are, takes}

-- ---- a request that waits after a step waits once more has happened

view-some : (st : Shown) (shard place : ℕ) → is_some (missing_view st shard place steps.Touch) ≡ true
view-some st shard place = by (covers st shard place) where
  by : (b : Bool) → is_some (cond b (unless false (steps.View shard)) (Some (steps.Apply shard))) ≡ true
  by true = refl
  by false = refl

read-some : (st : Shown) (shard : ℕ) (place : Option ℕ) → is_some (missing_read st shard place steps.Touch) ≡ true
read-some st shard None = refl
read-some st shard (Some place) = view-some st shard place

write-touch : (s : Session) (g : GatheredParts) (group : KeyParts) (step next : Step) → missing_write s g group step ≡ Some next
    → is_some (missing_write s g group steps.Touch) ≡ true
write-touch s g group step next is = by (is_some s.transaction) is where
  by : (b : Bool) → cond b (unless (is_placed s g group) steps.Touch) (unless (is_commit step) steps.Commit) ≡ Some next
      → is_some (cond b (unless (is_placed s g group) steps.Touch) (unless (is_commit steps.Touch) steps.Commit)) ≡ true
  by true found = ap is_some found
  by false found = refl

-- at the place that was gathered each shard has as many entries by another journal
abbrev pub AreEntriesSame : Shown → List Commit → Option ℕ → Type 0
AreEntriesSame st journal place =
    IfSome place (λ m. (shard : ℕ) → entries_by journal st.shards shard m ≡ entries_by st.journal st.shards shard m)

module _ (st : Shown) (journal : List Commit) (next : ℕ) (counts : List ℕ) where
  abbrev pub more : Shown
  more = record { shards = st.shards; journal = journal; next = next; counts = counts }

  uncovered-more : (place shard : ℕ) (views : List (Option ℕ)) → AreEntriesSame st journal (Some place)
      → first_uncovered more place shard views ≡ first_uncovered st place shard views
  uncovered-more place shard [] same = refl
  uncovered-more place shard (v ∷ views) same =
      ap (λ k. cond (has_covered k v) (first_uncovered more place (shard + 1) views) (Some shard)) (same shard)
      ∙ ap (λ x. cond (has_covered (entries_by st.journal st.shards shard place) v) x (Some shard))
      (uncovered-more place (shard + 1) views same)

  pub waits-more : (s : Session) (o : Operation) (g : GatheredParts) (step found : Step) → AreEntriesSame st journal g.place
      → missing st s o g step ≡ Some found → is_some (missing more s o g steps.Touch) ≡ true
  waits-more s (operation.Put entity true) g step found same is = by g.first is where
    by : (x : Option ℕ) → missing_ids st 1 x step (missing_write s g (root_of (completed entity.key x)) step) ≡ Some found
        → is_some (missing_ids more 1 x steps.Touch (missing_write s g (root_of (completed entity.key x)) steps.Touch)) ≡ true
    by None is = refl
    by (Some id) is = write-touch s g (root_of (completed entity.key (Some id))) step found is
  waits-more s (operation.Put entity false) g step found same is = write-touch s g (root_of entity.key) step found is
  waits-more s (operation.Delete key) g step found same is = write-touch s g (root_of key) step found is
  waits-more s (operation.Get key) g step found same is =
      read-some more (shard_of (root_of key) st.shards) (place_read s g (root_of key))
  waits-more s (operation.Find search) g step found same is = by search.query.ancestor is where
    by : (a : Option KeyParts) → missing_search st s g a step ≡ Some found → is_some (missing_search more s g a steps.Touch) ≡ true
    by None is = ap is_some is
    by (Some ancestor) is = read-some more (shard_of (root_of ancestor) st.shards) (place_read s g (root_of ancestor))
  waits-more s (operation.Begin several) g step found same is = cc
  waits-more s operation.Commit g step found same is = refl
  waits-more s operation.Rollback g step found same is = cc
  waits-more s operation.Settle g step found same is = by g.place same is where
    by : (p : Option ℕ) → AreEntriesSame st journal p → missing_settle st p g.views ≡ Some found
        → is_some (missing_settle more p g.views) ≡ true
    by None same is = refl
    by (Some place) same is = rw (uncovered-more place 0 g.views same) (some (first_uncovered st place 0 g.views) is) where
      some : (x : Option ℕ) → option_map (view_or_apply st place) x ≡ Some found
          → is_some (option_map (view_or_apply more place) x) ≡ true
      some None is = cc
      some (Some k) is = refl
  waits-more s (operation.AllocateIds count) g step found same is = by g.first is where
    by : (x : Option ℕ) → missing_ids st count x step None ≡ Some found → is_some (missing_ids more count x steps.Touch None) ≡ true
    by None is = refl
    by (Some id) is = cc
  waits-more s (operation.Apply shard) g step found same is = by g.place same is where
    by : (p : Option ℕ) → AreEntriesSame st journal p → missing_apply st shard p g.applied step ≡ Some found
        → is_some (missing_apply more shard p g.applied steps.Touch) ≡ true
    by None same is = refl
    by (Some place) same is =
        subst (λ k. is_some (cond (is_within k g.applied) None (missing_view more shard place steps.Touch)) ≡ true) (sym (same shard))
        (within (is_within (entries_by st.journal st.shards shard place) g.applied) is) where
          within : (b : Bool) → cond b None (missing_view st shard place step) ≡ Some found
              → is_some (cond b None (missing_view more shard place steps.Touch)) ≡ true
          within true is = cc
          within false is = view-some more shard place

  pub open-more : (s : Session) (o : Option Open) → IfSome o (λ p. AreEntriesSame st journal p.gathered.place) → IsWaiting st s o
      → IsWaiting more s o
  open-more s None same is = tt
  open-more s (Some o) same is = by (missing st s o.work.operation o.gathered steps.Touch) refl is where
    by : (x : Option Step) → missing st s o.work.operation o.gathered steps.Touch ≡ x → is_some x ≡ true → IsWaiting more s (Some o)
    by None none is = cc
    by (Some found) has is = waits-more s o.work.operation o.gathered steps.Touch found same has

-- ---- an event

-- what a step leaves of its client's open request waits
own-waiting : (shards : ℕ) (step : Step) (client : ℕ) (o : Option Open) (said : Option Said) (t u : Moment)
    → Takes shards step client o said t u → IsWaiting (shown_at shards u) (session_of u client) (open_of u client)
own-waiting shards step client None said t u taken = rw taken.ends.1 tt
own-waiting shards step client (Some o) said t u taken =
    by (missing then (session_of t client) o.work.operation given.gathered step) said refl taken.ends taken.quiet
  where
    then : Shown
    then = shown_by (shown_at shards t) o.work.operation o.gathered step

    given : Open
    given = with_gathered (gathered_by (shown_at shards t) o.work.operation o.gathered step) o

    same : (p : Option ℕ) → AreEntriesSame then t.journal p
    same None = tt
    same (Some m) = λ shard. refl

    by : (next : Option Step) (x : Option Said) → missing then (session_of t client) o.work.operation given.gathered step ≡ next
        → Comes next then (session_of t client) step given x (open_of u client) → (x ≡ None → IsQuiet t u)
        → IsWaiting (shown_at shards u) (session_of u client) (open_of u client)
    by None None is comes quiet = absurd comes
    by None (Some x) is comes quiet = rw comes.1 tt
    by (Some next) x is comes quiet =
        let still = quiet comes.0 in
        let now : shown_at shards u ≡ then = λ i. record {
          shards = shards;
          journal = still.0 i;
          next = taken.next i;
          counts = taken.counts
              i;
        } in
        subst (IsWaiting (shown_at shards u) (session_of u client)) (sym comes.1)
        (subst (λ ss. IsWaiting (shown_at shards u) (get_or ss client (first_session 0)) (Some given)) (sym still.1)
        (subst (λ x. IsWaiting x (session_of t client) (Some given)) (sym now)
        (waits-more then t.journal then.next then.counts (session_of t client) o.work.operation given.gathered step next
        (same given.gathered.place) is)))

entries-same : (shards : ℕ) (t : Moment) (journal added : List Commit) → journal ≡ t.journal ++ added → (o : Option Open)
    → IfSome o (λ p. IfSome p.gathered.place (λ m. m ≤ length t.journal))
    → IfSome o (λ p. AreEntriesSame (shown_at shards t) journal p.gathered.place)
entries-same shards t journal added is None within = tt
entries-same shards t journal added is (Some o) within = by o.gathered.place within where
  by : (p : Option ℕ) → IfSome p (λ m. m ≤ length t.journal) → AreEntriesSame (shown_at shards t) journal p
  by None within = tt
  by (Some m) within = λ shard. ap (λ cs. entries_by cs shards shard m) is
      ∙ ap (λ cs. length (shard_list cs shard shards)) (take-append-le m t.journal added within)

-- each open request waits for a step, where the journal has the places that were gathered
pub happened-waiting : {shards : ℕ} {step : Step} {client : ℕ} {begins : Option Request} {old new : Course}
    → HappensAt shards step client begins old new
    → ((c : ℕ) → IfSome (open_of old.moment c) (λ p. IfSome p.gathered.place (λ m. m ≤ length old.moment.journal)))
    → AreWaiting shards old.moment → AreWaiting shards new.moment
happened-waiting {shards = shards} {step = step} {client = client} {old = old} {new = new} is within are c =
    by (others-are client t u taken.others c) (others-are client old.moment t is.opens.others c)
  where
    t : Moment
    t = is.between.moment

    u : Moment
    u = new.moment

    taken : Takes shards step client (open_of t client) is.takes.1.said t u
    taken = takes is

    Waits : ℕ → Type 0
    Waits k = IsWaiting (shown_at shards u) (session_of u k) (open_of u k)

    own : Waits client
    own = own-waiting shards step client (open_of t client) is.takes.1.said t u taken

    by : (c ≡ client) ⊎ ((session_of u c ≡ session_of t c) × (open_of u c ≡ open_of t c))
        → (c ≡ client) ⊎ ((session_of t c ≡ session_of old.moment c) × (open_of t c ≡ open_of old.moment c)) → Waits c
    by (inl same) b = subst Waits (sym same) own
    by (inr a) (inl same) = subst Waits (sym same) own
    by (inr a) (inr b) =
        let added = adds-some shards step old.moment u (is-moved is) in
        subst (λ o. IsWaiting (shown_at shards u) (session_of u c) o) (sym (a.1 ∙ b.1))
        (subst (λ s. IsWaiting (shown_at shards u) s (open_of old.moment c)) (sym (a.0 ∙ b.0))
        (open-more (shown_at shards old.moment) u.journal u.next u.counts (session_of old.moment c) (open_of old.moment c)
        (entries-same shards old.moment u.journal added.0 added.1 (open_of old.moment c) (within c)) (are c)))

-- ---- a request that waits isn't replied to

pub waiting-due : (st : StateParts) (shards : ℕ) (t : Moment) (s : Session) (client : ℕ) (o : Option Open) (p : Plan)
    → shown st ≡ shown_at shards t → IsDueNow st s client steps.Touch o (Some (due.Reply p)) → IsWaiting (shown_at shards t) s o
    → p.body ≡ body.NoMemory
waiting-due st shards t s client None p same is waits = cc
waiting-due st shards t s client (Some o) p same is waits = by is.next where
  by : (missing (shown st) s o.work.operation o.gathered steps.Touch ≡ None) ⊎ (p.body ≡ body.NoMemory) → p.body ≡ body.NoMemory
  by (inr memory) = memory
  by (inl none) =
      let gone : is_some (missing (shown_at shards t) s o.work.operation o.gathered steps.Touch) ≡ false =
      ap (λ x. is_some (missing x s o.work.operation o.gathered steps.Touch)) (sym same) ∙ ap is_some none in
      let never : true ≡ false = sym waits ∙ gone in
      cc
