-- A step keeps what was gathered and what was seen.
use Rattle.ds_machine.proofs.Words.{◌≡◌, ℕ, ◌+◌, ◌<◌, ◌≤◌, true, List, [], length, refl, sym, arith, Option, Some, None, ◌&&◌, IfSome}
use Rattle.ds_machine.proofs.Words.{nat_lt, range_with_len, append-nil, first_drawn_id, Call, IsSeenPlace, Session, count_of, Operation}
use Rattle.ds_machine.proofs.Words.{Ready, call_of, ids_asked, written_path, Step, AppliedWithin, AreViewed, IsGathered, ids_of}
use Rattle.ds_machine.proofs.Words.{GatheredParts, draws, gathered_by, gathers_entry, is_pending, Shown, shown, StateParts, IsSession}
use Rattle.ds_machine.proofs.Words.{AreUpTo, Grows, counts_applied, counts_by, next_by, store_by}
use Rattle.ds_log.specs.JournalLaws.{first_unissued-rises}
use Rattle.ds_machine.specs.Opening.{IsUnrefused}
use Rattle.ds_effects.specs.declared.gathered.Step.TheVariants as steps
use Rattle.ds_machine.proofs.Gatherings.{gathered-grown, view-set}
use Rattle.ds_machine.proofs.Grown.{session-grown, up_to-length}
use Rattle.ds_machine.proofs.ReadPlans.{raised-count, up_to-count}

-- ---- the ids of a request

-- a request that has drawn holds what it asked for
pub drawn_ids_are : (c : Call) (g : GatheredParts) (first count : ℕ) → g.first ≡ Some first → ids_asked c ≡ count
    → ids_of c g ≡ range_with_len first count
drawn_ids_are c g first count is asks = grind arith

pub none_ids : (c : Call) (g : GatheredParts) → g.first ≡ None → ids_of c g ≡ []
none_ids c g is = grind arith

-- ---- what draws

pub draws-parts : (st : Shown) (o : Operation) (g : GatheredParts) (count : ℕ) → draws st o g count ≡ true
    → (count ≡ ids_asked (call_of o)) × (g.first ≡ None)
draws-parts st o g count is = (grind arith, grind arith)

-- ids are drawn, or none
pub next_by-rises : (st : Shown) (o : Operation) (g : GatheredParts) (step : Step) → st.next ≤ next_by st o g step
next_by-rises st o g step = grind arith

-- ---- an entry

pub raised-one : (st : StateParts) (shard : ℕ) (counts : List ℕ) → shard < length st.applied.counts → is_pending (shown st) shard ≡ true
    → counts ≡ counts_applied (shown st) shard → count_of counts shard ≡ count_of st.applied.counts shard + 1
raised-one st shard counts below pending now = grind (arith, raised-count)

-- the entry that an Apply of the request's own shard applied
pub entry_gathered : (st new : StateParts) (o : Operation) (g : GatheredParts) (shard count : ℕ)
    → AreUpTo st.applied.counts new.applied.counts → shard < length new.applied.counts
    → (nat_lt shard st.store.shards && is_pending (shown st) shard) ≡ true → gathers_entry o g shard ≡ true
    → new.applied.counts ≡ counts_applied (shown st) shard → count ≡ count_of new.applied.counts shard
    → record g { applied = Some count } ≡ gathered_by (shown st) o g (steps.Apply shard)
entry_gathered st new o g shard count grows below there gathers counts counted = grind (arith, up_to-length, raised-one)

-- ---- what was gathered after a step

place-after : (st new : StateParts) (s : Session) (o : Operation) (g : GatheredParts) (step : Step)
    → length st.store.journal ≤ length new.store.journal
    → s.place ≤ length st.store.journal → IfSome g.place (IsSeenPlace new.store.journal s)
    → IfSome (gathered_by (shown st) o g step).place (IsSeenPlace new.store.journal s)
place-after st new s o g step longer seen was = grind arith

first-after : (st new : StateParts) (s : Session) (o : Operation) (g : GatheredParts) (step : Step) → first_drawn_id ≤ st.store.next
    → s.next_id ≤ st.store.next → new.store.next ≡ next_by (shown st) o g step
    → IfSome g.first (λ first. (first_drawn_id ≤ first) × (s.next_id ≤ first) × (first + ids_asked (call_of o) ≤ new.store.next))
    → IfSome (gathered_by (shown st) o g step).first
    (λ first. (first_drawn_id ≤ first) × (s.next_id ≤ first) × (first + ids_asked (call_of o) ≤ new.store.next))
first-after st new s o g step low seen next was = grind (arith, draws-parts)

applied-after : (st new : StateParts) (s : Session) (o : Operation) (g : GatheredParts) (step : Step)
    → length st.applied.counts ≡ st.store.shards → AreUpTo s.counts st.applied.counts
    → new.applied.counts ≡ counts_by (shown st) step → AppliedWithin new s (call_of o) g.applied
    → AppliedWithin new s (call_of o) (gathered_by (shown st) o g step).applied
applied-after st new s o g step many seen counts was = grind (arith, raised-one, up_to-count)

views-after : (st new : StateParts) (s : Session) (o : Operation) (g : GatheredParts) (step : Step) → AreUpTo s.counts new.applied.counts
    → new.applied.counts ≡ counts_by (shown st) step → AreViewed s.counts g.views new.applied.counts
    → AreViewed s.counts (gathered_by (shown st) o g step).views new.applied.counts
views-after st new s o g step seen counts was = grind (arith, view-set)

module _ (st new : StateParts) (s : Session) (o : Operation) (g : GatheredParts) (from_first : first_drawn_id ≤ st.store.next)
    (many : length st.applied.counts ≡ st.store.shards) (seen : IsSession st s) (step : Step)
    (store : new.store ≡ store_by st o g step) (up : AreUpTo st.applied.counts new.applied.counts) where
  pub step-grows : Grows st new
  step-grows = rw store record {
    added = [];
    journal = sym (append-nil st.store.journal);
    next = next_by-rises (shown st) o g step;
    counts = up;
  }

  pub step-session : IsSession new s
  step-session = session-grown st new s step-grows seen

  pub step-gathered : IsGathered st s (call_of o) g → new.applied.counts ≡ counts_by (shown st) step
      → IsGathered new s (call_of o) (gathered_by (shown st) o g step)
  step-gathered gathered counts =
      let was = gathered-grown st new step-grows s (call_of o) g gathered in record {
        place = place-after st new s o g step (rw store (omega arith)) seen.place_within was.place;
        first = first-after st new s o g step from_first seen.next_within (rw store refl) was.first;
        applied = applied-after st new s o g step many seen.counts_within counts was.applied;
        views = views-after st new s o g step step-session.counts_within counts was.views;
      }

-- ---- what nothing refused isn't refused where more has happened

pub unrefused-grown : (old new : StateParts) (s : Session) (o : Operation) (r : Option Ready)
    → new.store.definitions ≡ old.store.definitions → new.store.shards ≡ old.store.shards → old.store.next ≤ new.store.next
    → IsUnrefused old s o r → IsUnrefused new s o r
unrefused-grown old new s o r definitions shards rises is = record {
  lawful = is.lawful;
  shard = rw shards is.shard;
  unrefused = rw definitions is.unrefused;
  issued = first_unissued-rises old.store.next new.store.next (written_path o) rises is.issued;
  ready = grind (arith, is.ready);
}
