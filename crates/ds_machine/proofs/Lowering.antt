-- Each step that is missing brings an open request nearer to its reply.
use Rattle.ds_machine.proofs.Words.{IfSome_then, nat_tests, common_steps, ◌≡◌, ℕ, suc, ◌+◌, ◌<◌, ◌≤◌, Bool, true, false, List, [], ◌∷◌}
use Rattle.ds_machine.proofs.Words.{length, cond, refl, ap, sym, ◌∙◌, subst, arith, Option, Some, None, ◌&&◌, IfSome, is_some, nat_lt}
use Rattle.ds_machine.proofs.Words.{slice_index_or, slice_set, option_map, option_or, and_parts, cond_both, KeyParts, root_of, shard_of}
use Rattle.ds_machine.proofs.Words.{entries_by, has_shard, place_in, Session, count_of, raised_at, Operation, call_of, ids_asked, Step}
use Rattle.ds_machine.proofs.Words.{GatheredParts, draws, gathered_by, gathers_entry, is_pending, first_uncovered, missing, Shown, ◌||◌}
use Rattle.ds_machine.proofs.Words.{◌==◌, is_none, eq-eqb, leb-false, lt-ltb, ltb-true, fnv1a, IsLawfulOperation, first_place}
use Rattle.ds_machine.proofs.Words.{first_unviewed, has_covered, gathers_view, settles, shown_by, are_exhausted, completed, covers}
use Rattle.ds_machine.proofs.Words.{is_within, missing_ids, missing_read, missing_search, missing_settle, missing_view, missing_write}
use Rattle.ds_machine.proofs.Words.{place_read, unless, view_or_apply}
use Rattle.std.proofs.Math.Nat.{mod-lt}
use Rattle.ds_bytes.specs.Encoding.{key_bytes}
use Rattle.ds_effects.specs.Taken.{is_commit, is_issue, is_placed, is_view}
use Rattle.ds_protocol.specs.declared.operations.Operation.TheVariants as operation
use Rattle.ds_effects.specs.declared.gathered.Step.TheVariants as steps
use Rattle.ds_machine.proofs.Left.{entries, entries-within, gaps-raised, gaps-viewed, lacks, left, level, room, waits, waits-few}

-- after the step less is left than there was room before
abbrev Lowers : Shown → Session → Operation → GatheredParts → Step → Type 0
Lowers st s o g step = left (shown_by st o g step) s o (gathered_by st o g step) step ≤ room st g

-- the first shard without a View that covers the place
abbrev IsUncovered : Shown → ℕ → ℕ → List (Option ℕ) → ℕ → Type 0
IsUncovered st place first views k = (n : ℕ) × (k ≡ first + n) × (n < length views)
    × (has_covered (entries_by st.journal st.shards k place) (slice_index_or views n None) ≡ false)

uncovered-at : (st : Shown) (place first : ℕ) (views : List (Option ℕ))
    → IfSome (first_uncovered st place first views) (IsUncovered st place first views)
uncovered-at st place first [] = tt
uncovered-at st place first (v ∷ views) = cond_both (has_covered (entries_by st.journal st.shards first place) v)
    (first_uncovered st place (first + 1) views) (Some first) (λ o. IfSome o (IsUncovered st place first (v ∷ views)))
    (λ had. IfSome_then (first_uncovered st place (first + 1) views) (uncovered-at st place (first + 1) views)
    (λ k found. (suc found.0, omega (arith, found.1), omega (arith, found.2), found.3)))
    (λ fails. (0, omega arith, omega arith, fails))

unviewed-at : (first : ℕ) (views : List (Option ℕ)) → IfSome (first_unviewed first views)
    (λ k. (n : ℕ) × (k ≡ first + n) × (n < length views) × (slice_index_or views n None ≡ None))
unviewed-at first [] = tt
unviewed-at first (None ∷ views) = (0, omega arith, omega arith, refl)
unviewed-at first (Some m ∷ views) = IfSome_then (first_unviewed (first + 1) views) (unviewed-at (first + 1) views)
    (λ k found. (suc found.0, omega (arith, found.1), omega (arith, found.2), found.3))

mapped : (f : ℕ → Step) (P : Step → Type 0) (Q : ℕ → Type 0) (o : Option ℕ) → ((n : ℕ) → Q n → P (f n)) → IfSome o Q
    → IfSome (option_map f o) P
mapped f P Q None each found = tt
mapped f P Q (Some n) each found = each n found

no_place : (a : Option ℕ) (b : Bool) → (is_some a || b) ≡ false → a ≡ None
no_place a b is = grind (arith, common_steps)

unread : (a b : Option ℕ) → option_or a b ≡ None → b ≡ None
unread None b is = is
unread (Some n) b is = cc

module _ (st : Shown) (s : Session) (g : GatheredParts) (taken : Step) (many : length g.views ≡ st.shards)
    (many_counts : length st.counts ≡ st.shards) where
  module _ (o : Operation) where
    touch : g.place ≡ None → Lowers st s o g steps.Touch
    touch none =
        let few = waits-few (missing (shown_by st o g steps.Touch) s o (gathered_by st o g steps.Touch) steps.Touch) in
        let now : lacks (first_place (length st.journal) g.place) ≡ 0 = rw none refl in
        let was : lacks g.place ≡ 1 = ap lacks none in omega (arith, few, now, was)

    commit : missing st s o g steps.Commit ≡ None → Lowers st s o g steps.Commit
    commit ended =
        let none : waits (missing (shown_by st o g steps.Commit) s o g steps.Commit) ≡ 0 = ap waits ended in omega (arith, none)

    issue : (count : ℕ) → g.first ≡ None → (draws st o g count ≡ false → missing st s o g (steps.Issue count) ≡ None)
        → Lowers st s o g (steps.Issue count)
    issue count none ended = by (draws st o g count) ended where
      by : (b : Bool) → (b ≡ false → missing st s o g (steps.Issue count) ≡ None)
          → left (record st { next = cond b (st.next + count) st.next }) s o (cond b (record g { first = Some st.next }) g)
          (steps.Issue count) ≤ room st g
      by true ended =
          let few = waits-few (missing (record st { next = st.next + count }) s o (record g { first = Some st.next }) (steps.Issue count)) in
          let was : lacks g.first ≡ 1 = ap lacks none in omega (arith, few, was)
      by false ended = let gone : waits (missing st s o g (steps.Issue count)) ≡ 0 = ap waits (ended refl) in omega (arith, gone)

    -- a View that is gathered rises, from below the entries that there are
    rises : (k : ℕ) (p : Operation) → gathers_view st p g k ≡ true
        → (level (slice_index_or g.views k None) ≤ count_of st.counts k) × (level (slice_index_or g.views k None) ≤ entries st k)
    rises k operation.Settle is = by g.place (slice_index_or g.views k None) is where
      by : (place view : Option ℕ) → settles st k place view ≡ true → (level view ≤ count_of st.counts k) × (level view ≤ entries st k)
      by None view is = cc
      by (Some place) None is = (omega arith, omega arith)
      by (Some place) (Some n) is =
          let within = entries-within st.journal k st.shards place in (grind (arith, nat_tests), grind (arith, nat_tests))
    rises k _ is = by (slice_index_or g.views k None) is where
      by : (view : Option ℕ) → is_none view ≡ true → (level view ≤ count_of st.counts k) × (level view ≤ entries st k)
      by None is = (omega arith, omega arith)
      by (Some n) is = cc

    view : (k : ℕ) → ((nat_lt k st.shards && gathers_view st o g k) ≡ false → missing st s o g (steps.View k) ≡ None)
        → Lowers st s o g (steps.View k)
    view k ended = cond_both (nat_lt k st.shards && gathers_view st o g k) viewed g
        (λ h. left (shown_by st o g (steps.View k)) s o h (steps.View k) ≤ room st g) (λ gathers.
        let both = and_parts (nat_lt k st.shards) (gathers_view st o g k) gathers in
        let up = rises k o both.1 in
        let few = waits-few (missing (shown_by st o g (steps.View k)) s o viewed (steps.View k)) in
        let less = gaps-viewed (λ shard. entries st shard + 1) g.views k (count_of st.counts k)
        (let below = ltb-true k st.shards both.0 in omega (arith, below, many)) up.0 (omega (arith, up.1)) in
        omega (arith, few, less)) (λ kept.
        let gone : waits (missing (shown_by st o g (steps.View k)) s o g (steps.View k)) ≡ 0 = ap waits (ended kept) in omega (arith, gone))
      where
        viewed : GatheredParts
        viewed = record g { views = slice_set g.views k (Some (count_of st.counts k)) }

    apply : (k place : ℕ) → k < st.shards → covers st k place ≡ false → Lowers st s o g (steps.Apply k)
    apply k place there fails = subst (λ b. left (record st { counts = cond b raised st.counts }) s o
        (cond (nat_lt k st.shards && b && gathers_entry o g k) applied g) (steps.Apply k) ≤ room st g) (sym pending)
        (cond_both (nat_lt k st.shards && true && gathers_entry o g k) applied g
        (λ h. left (record st { counts = raised }) s o h (steps.Apply k) ≤ room st g) (λ own. less applied refl) (λ other. less g refl)) where
          raised : List ℕ
          raised = raised_at k (count_of st.counts k + 1) st.counts

          applied : GatheredParts
          applied = record g { applied = Some (count_of st.counts k + 1) }

          below : count_of st.counts k < entries st k
          below =
              let low = leb-false (entries_by st.journal st.shards k place) (count_of st.counts k) fails in
              let within = entries-within st.journal k st.shards place in omega (arith, low, within)

          pending : is_pending st k ≡ true
          pending = lt-ltb (count_of st.counts k) (entries st k) below

          less : (h : GatheredParts) → room st h ≡ room st g
              → left (record st { counts = raised }) s o h (steps.Apply k) ≤ room st g
          less h same =
              let few = waits-few (missing (record st { counts = raised }) s o h (steps.Apply k)) in
              let low = gaps-raised (entries st) st.counts k (omega (arith, there, many_counts)) below in omega (arith, same, few, low)

    -- ---- what is missing

    unless-lowers : (done : Bool) (step : Step) → Lowers st s o g step → IfSome (unless done step) (Lowers st s o g)
    unless-lowers true step low = tt
    unless-lowers false step low = low

    write : (group : KeyParts) → (is_some s.transaction ≡ false → missing st s o g steps.Commit ≡ None)
        → IfSome (missing_write s g group taken) (Lowers st s o g)
    write group ended = by (is_some s.transaction) (is_placed s g group) refl refl where
      by : (inside placed : Bool) → is_some s.transaction ≡ inside → is_placed s g group ≡ placed
          → IfSome (cond inside (unless placed steps.Touch) (unless (is_commit taken) steps.Commit)) (Lowers st s o g)
      by true true inside placed = tt
      by true false inside placed = touch (no_place g.place _ placed)
      by false _ inside placed = unless-lowers (is_commit taken) steps.Commit (commit (ended inside))

    ids : (count : ℕ) → g.first ≡ None → count ≡ ids_asked (call_of o) → 1 ≤ count
        → (unless ((count == count) && are_exhausted st count) (steps.Issue count) ≡ None → missing st s o g (steps.Issue count) ≡ None)
        → IfSome (unless (is_issue count taken && are_exhausted st count) (steps.Issue count)) (Lowers st s o g)
    ids count none asks some ended = unless-lowers _ (steps.Issue count) (issue count none (λ undrawn.
        let over : are_exhausted st count ≡ true = grind (arith, nat_tests) in
        ended (rw (eq-eqb count count refl, over) refl)))

    view_due : (k place : ℕ) → k < st.shards → (missing_view st k place (steps.View k) ≡ None → missing st s o g (steps.View k) ≡ None)
        → IfSome (missing_view st k place taken) (Lowers st s o g)
    view_due k place there ended = cond_both (covers st k place) (unless (is_view k taken) (steps.View k)) (Some (steps.Apply k))
        (λ next. IfSome next (Lowers st s o g))
        (λ holds. unless-lowers (is_view k taken) (steps.View k) (view k (λ kept. ended (rw (holds, eq-eqb k k refl) refl))))
        (λ fails. apply k place there fails)

    read : (k : ℕ) (group : KeyParts) → k < st.shards
        → (missing_read st k (place_read s g group) (steps.View k) ≡ None → missing st s o g (steps.View k) ≡ None)
        → IfSome (missing_read st k (place_read s g group) taken) (Lowers st s o g)
    read k group there ended = by (place_read s g group) refl where
      by : (p : Option ℕ) → place_read s g group ≡ p → IfSome (missing_read st k p taken) (Lowers st s o g)
      by None none = touch (unread (place_in s.transaction group) g.place none)
      by (Some place) some = view_due k place there (λ gone. ended (ap (λ p. missing_read st k p (steps.View k)) some ∙ gone))

    view_first : (k n : ℕ) → k ≡ 0 + n → n < length g.views → gathers_view st o g k ≡ true → Lowers st s o g (steps.View k)
    view_first k n same below gathers = view k (λ kept.
        let both : (nat_lt k st.shards && gathers_view st o g k) ≡ true =
        rw (lt-ltb k st.shards (omega (arith, same, below, many)), gathers) refl in cc)

  settle : IfSome (missing_settle st g.place g.views) (Lowers st s operation.Settle g)
  settle = by g.place refl where
    by : (p : Option ℕ) → g.place ≡ p → IfSome (missing_settle st p g.views) (Lowers st s operation.Settle g)
    by None none = touch operation.Settle none
    by (Some place) some = mapped (view_or_apply st place) _ (IsUncovered st place 0 g.views) (first_uncovered st place 0 g.views)
        (λ k found. cond_both (covers st k place) (steps.View k) (steps.Apply k) (Lowers st s operation.Settle g) (λ holds.
        let same : found.0 ≡ k = omega (arith, found.1) in
        let open_at = subst (λ n. has_covered (entries_by st.journal st.shards k place) (slice_index_or g.views n None) ≡ false) same
        found.3 in
        view_first operation.Settle k found.0 found.1 found.2 (rw (some, open_at, holds) refl))
        (λ fails. apply operation.Settle k place (omega (arith, found.1, found.2, many)) fails)) (uncovered-at st place 0 g.views)

  group_below : (group : KeyParts) → 1 ≤ st.shards → shard_of group st.shards < st.shards
  group_below group least = mod-lt (fnv1a (key_bytes group)) least

  lower : 1 ≤ st.shards → (o : Operation) → IsLawfulOperation o → has_shard st.shards (call_of o) ≡ true
      → IfSome (missing st s o g taken) (Lowers st s o g)
  lower least (operation.Put entity true) lawful there = by g.first refl where
    by : (x : Option ℕ) → g.first ≡ x
        → IfSome (missing_ids st 1 x taken (missing_write s g (root_of (completed entity.key x)) taken))
        (Lowers st s (operation.Put entity true) g)
    by None none = ids (operation.Put entity true) 1 none refl (omega arith) (λ gone. rw none gone)
    by (Some id) some =
        write (operation.Put entity true) (root_of (completed entity.key (Some id))) (λ out. rw (some, out) refl)
  lower least (operation.Put entity false) lawful there = write (operation.Put entity false) (root_of entity.key) (λ out. rw out refl)
  lower least (operation.Delete key) lawful there = write (operation.Delete key) (root_of key) (λ out. rw out refl)
  lower least (operation.Get key) lawful there =
      read (operation.Get key) (shard_of (root_of key) st.shards) (root_of key) (group_below (root_of key) least) (λ gone. gone)
  lower least (operation.Find search) lawful there = by search.query.ancestor refl where
    by : (a : Option KeyParts) → search.query.ancestor ≡ a → IfSome (missing_search st s g a taken) (Lowers st s (operation.Find search) g)
    by None none = mapped (λ shard. steps.View shard) _ _ (first_unviewed 0 g.views) (λ k found.
        view_first (operation.Find search) k found.0 found.1 found.2
        (let same : found.0 ≡ k = omega (arith, found.1) in
        let open_at = subst (λ n. slice_index_or g.views n None ≡ None) same found.3 in rw open_at refl)) (unviewed-at 0 g.views)
    by (Some ancestor) some =
        read (operation.Find search) (shard_of (root_of ancestor) st.shards) (root_of ancestor) (group_below (root_of ancestor) least)
        (λ gone. rw some gone)
  lower least operation.Commit lawful there =
      unless-lowers operation.Commit (is_commit taken) steps.Commit (commit operation.Commit refl)
  lower least operation.Settle lawful there = settle
  lower least (operation.AllocateIds count) lawful there = by g.first refl where
    by : (x : Option ℕ) → g.first ≡ x → IfSome (missing_ids st count x taken None) (Lowers st s (operation.AllocateIds count) g)
    by None none = ids (operation.AllocateIds count) count none refl lawful (λ gone. rw none gone)
    by (Some id) some = tt
  lower least (operation.Apply shard) lawful there = by g.place refl where
    by : (p : Option ℕ) → g.place ≡ p → IfSome (missing st s (operation.Apply shard) (record g { place = p }) taken)
        (Lowers st s (operation.Apply shard) g)
    by None none = touch (operation.Apply shard) none
    by (Some place) some = cond_both (is_within (entries_by st.journal st.shards shard place) g.applied) None
        (missing_view st shard place taken) (λ next. IfSome next (Lowers st s (operation.Apply shard) g)) (λ holds. tt)
        (λ fails. view_due (operation.Apply shard) shard place (ltb-true shard st.shards there) (λ gone. rw (some, fails) gone))
  lower least _ lawful there = tt

-- the measure of the loop that takes them
pub step-lowers : (st : Shown) (s : Session) (o : Operation) (g : GatheredParts) (step taken : Step) → length g.views ≡ st.shards
    → length st.counts ≡ st.shards → IsLawfulOperation o → 1 ≤ st.shards → has_shard st.shards (call_of o) ≡ true
    → missing st s o g taken ≡ Some step
    → left (shown_by st o g step) s o (gathered_by st o g step) step < left st s o g taken
step-lowers st s o g step taken many many_counts lawful least there is =
    let low : Lowers st s o g step =
    subst (λ x. IfSome x (Lowers st s o g)) is (lower st s g taken many many_counts least o lawful there) in
    let one : waits (missing st s o g taken) ≡ 1 = ap waits is in omega (arith, low, one)
