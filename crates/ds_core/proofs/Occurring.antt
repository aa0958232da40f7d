-- What has occurred stays so, and what open requests have gathered and transactions have touched comes from it still.
use Rattle.ds_core.proofs.Words.{◌≡◌, ◌⊎◌, inl, inr, ℕ, ◌+◌, ◌<◌, List, [], ◌∷◌, ◌++◌, length, refl, ap, sym, ◌∙◌, subst, arith, Bool}
use Rattle.ds_core.proofs.Words.{true, false, Option, Some, None, cond, slice_get, slice_set, is_some, Commit, Call, count_of}
use Rattle.ds_core.proofs.Words.{Operation, IsOperationOf, ids_asked, Step, GatheredParts, counts_by, draws, gathered_by, Shown}
use Rattle.ds_core.proofs.Words.{StateParts, draws-parts, Open, Happening, Moment, nothing_gathered, open_of, open_then, shown_then}
use Rattle.ds_core.proofs.Words.{IsApply, IsIssue, IsTouch, IsView, Occurs, AreWitnessed, IsGatheredThen, IsOpenThen}
use Rattle.std.specs.Prelude.{◌&&◌, ◌==◌, nat_lt}
use Rattle.std.proofs.lemmas.Bool.{and_parts, eqb-true, ltb-true}
use Rattle.ds_effects.specs.Gathered.{first_place}
use Rattle.ds_machine.specs.Gathering.{gathers_entry, gathers_view, is_pending}
use Rattle.ds_machine.proofs.Stepped.{raised-one}
use Rattle.ds_request.specs.declared.call.Call.TheVariants as call
use Rattle.ds_protocol.specs.declared.operations.Operation.TheVariants as operation
use Rattle.ds_effects.specs.declared.gathered.Step.TheVariants as steps
use Rattle.ds_core.proofs.Gathers.{asked-alike}
use Rattle.ds_core.proofs.Lists.{none-got, set-got}

-- ---- what has occurred

pub occurs-more : (P : Happening → Type 0) (hs xs : List Happening) → Occurs P hs → Occurs P (hs ++ xs)
occurs-more P [] xs has = absurd has
occurs-more P (h ∷ hs) xs (inl p) = inl p
occurs-more P (h ∷ hs) xs (inr rest) = inr (occurs-more P hs xs rest)

pub occurs-last : (P : Happening → Type 0) (hs : List Happening) (h : Happening) → P h → Occurs P (hs ++ h ∷ [])
occurs-last P [] h p = inl p
occurs-last P (x ∷ hs) h p = inr (occurs-last P hs h p)

-- ---- what stays witnessed

gathered-more : (hs xs : List Happening) (client : ℕ) (c : Call) (g : GatheredParts) → IsGatheredThen hs client c g
    → IsGatheredThen (hs ++ xs) client c g
gathered-more hs xs client c g is = record {
  place = λ place at. occurs-more (IsTouch client place) hs xs (is.place place at);
  first = λ first at. occurs-more (IsIssue client (ids_asked c) first) hs xs (is.first first at);
  applied = λ shard count of at. occurs-more (IsApply client shard count) hs xs (is.applied shard count of at);
  views = λ shard count got. occurs-more (IsView client shard count) hs xs (is.views shard count got);
}

open-more : (hs xs : List Happening) (client : ℕ) (o : Option Open) → IsOpenThen hs client o → IsOpenThen (hs ++ xs) client o
open-more hs xs client None is = tt
open-more hs xs client (Some o) is = (is.0, gathered-more hs xs client o.request.call o.gathered is.1)

pub witnessed-more : (hs xs : List Happening) (t : Moment) → AreWitnessed hs t → AreWitnessed (hs ++ xs) t
witnessed-more hs xs t are c = (
  open-more hs xs c (open_of t c) (are c).0,
  λ group place has. occurs-more (IsTouch c place) hs xs ((are c).1 group place has),
)

-- a request that has gathered nothing
pub nothing-gathered : (hs : List Happening) (client : ℕ) (c : Call) (shards : ℕ) → IsGatheredThen hs client c (nothing_gathered shards)
nothing-gathered hs client c shards = record {
  place = λ place at. cc;
  first = λ first at. cc;
  applied = λ shard count of at. cc;
  views = λ shard count got. absurd (none-got shards shard count got);
}

-- ---- what a step gathers

-- an apply of the shard is asked for
asks-apply : (c : Call) (o : Operation) (g : GatheredParts) (shard : ℕ) → IsOperationOf c o → gathers_entry o g shard ≡ true
    → c ≡ call.Apply shard
asks-apply c (operation.Apply own) g shard of is = of ∙ ap call.Apply (eqb-true own shard (and_parts (own == shard) (is_some g.place) is).0)
asks-apply c _ g shard of is = cc

-- a state that shows this
abbrev as-state : Shown → StateParts
as-state st = record {
  store = record { definitions = []; shards = st.shards; journal = st.journal; next = st.next };
  applied = record { shards = 0; commits = 0; lists = []; counts = st.counts };
}

module _ (hs : List Happening) (h : Happening) (st : Shown) (many : length st.counts ≡ st.shards) (journal : h.before.journal ≡ st.journal)
    (counts : h.before.counts ≡ st.counts) (next : h.before.next ≡ st.next) where
  abbrev all : List Happening
  all = hs ++ h ∷ []

  -- what the client's open request has gathered after the step comes from what happened, or from the step
  pub gathers-then : (step : Step) (client : ℕ) (o : Option Open) → h.step ≡ step → h.client ≡ client
      → h.after.counts ≡ counts_by st step → h.after.next ≡ (shown_then st o step).next → IsOpenThen all client o
      → IsOpenThen all client (open_then st o step)
  gathers-then step client None is own counted drawn was = tt
  gathers-then step client (Some o) is own counted drawn (of, was) = (of, by step is counted drawn) where
    g : GatheredParts
    g = o.gathered

    Gathered : GatheredParts → Type 0
    Gathered = IsGatheredThen all client o.request.call

    touched : (n place : ℕ) (p : Option ℕ) → IsTouch client n h → (p ≡ Some place → Occurs (IsTouch client place) all)
        → first_place n p ≡ Some place → Occurs (IsTouch client place) all
    touched n place None at had is = let same : n ≡ place = cc in
        subst (λ k. Occurs (IsTouch client k) all) same (occurs-last (IsTouch client n) hs h at)
    touched n place (Some m) at had is = had is

    viewed : (shard n s count : ℕ) → IsView client shard n h
        → ((shard ≡ s) × (Some n ≡ Some count)) ⊎ (slice_get g.views s ≡ Some (Some count)) → Occurs (IsView client s count) all
    viewed shard n s count at (inl (same, one)) = occurs-last (IsView client s count) hs h
        (let e : n ≡ count = cc in (at.0, at.1 ∙ ap steps.View same, ap (count_of h.after.counts) (sym same) ∙ at.2 ∙ e))
    viewed shard n s count at (inr had) = was.views s count had

    by : (step : Step) → h.step ≡ step → h.after.counts ≡ counts_by st step → h.after.next ≡ (shown_then st (Some o) step).next
        → Gathered (gathered_by st o.work.operation g step)
    by steps.Commit is counted drawn = was
    by steps.Touch is counted drawn = record {
      place = λ place. touched (length st.journal) place g.place (own, is, ap (λ (cs : List Commit). length cs) journal) (was.place place);
      first = was.first;
      applied = was.applied;
      views = was.views;
    }
    by (steps.View shard) is counted drawn = each (nat_lt shard st.shards && gathers_view st o.work.operation g shard) where
      each : (b : Bool) → Gathered (cond b (record g { views = slice_set g.views shard (Some (count_of st.counts shard)) }) g)
      each false = was
      each true = record {
        place = was.place;
        first = was.first;
        applied = was.applied;
        views = λ s count got. viewed shard (count_of st.counts shard) s count (own, is, ap (λ cs. count_of cs shard) counted)
            (set-got g.views shard s (Some (count_of st.counts shard)) (Some count) got);
      }
    by (steps.Issue count) is counted drawn = each (draws st o.work.operation g count) refl drawn where
      each : (b : Bool) → draws st o.work.operation g count ≡ b → h.after.next ≡ cond b (st.next + count) st.next
          → Gathered (cond b (record g { first = Some st.next }) g)
      each false unmet same = was
      each true met more = record {
        place = was.place;
        first = λ first at.
            let asks : ids_asked o.request.call ≡ count = asked-alike o.work.operation o.request.call of
            ∙ sym (draws-parts st o.work.operation g count met).0 in
            let same : st.next ≡ first = cc in
            subst (λ n. Occurs (IsIssue client (ids_asked o.request.call) n) all) same
            (occurs-last (IsIssue client (ids_asked o.request.call) st.next) hs h
            (own, is ∙ ap steps.Issue (sym asks), next, more ∙ ap (λ n. st.next + n) (sym asks)));
        applied = was.applied;
        views = was.views;
      }
    by (steps.Apply shard) is counted drawn =
        each (nat_lt shard st.shards && is_pending st shard && gathers_entry o.work.operation g shard) refl
      where
        n : ℕ
        n = count_of st.counts shard + 1

        each : (b : Bool) → (nat_lt shard st.shards && is_pending st shard && gathers_entry o.work.operation g shard) ≡ b
            → Gathered (cond b (record g { applied = Some n }) g)
        each false unmet = was
        each true met =
            let a = and_parts (nat_lt shard st.shards && is_pending st shard) (gathers_entry o.work.operation g shard) met in
            let b = and_parts (nat_lt shard st.shards) (is_pending st shard) a.0 in
            let there : shard < st.shards = ltb-true shard st.shards b.0 in
            let low : count_of h.before.counts shard ≡ count_of st.counts shard = ap (λ cs. count_of cs shard) counts in
            let high : count_of h.after.counts shard ≡ n =
            raised-one (as-state st) shard h.after.counts (omega (arith, there, many)) b.1 counted in
            let raised : Occurs (IsApply client shard n) all =
            occurs-last (IsApply client shard n) hs h (own, is, omega (arith, low), high) in record {
              place = was.place;
              first = was.first;
              applied = λ k count asked at.
                  let same : shard ≡ k = cc (asks-apply o.request.call o.work.operation g shard of a.1) in
                  let many : n ≡ count = cc in
                  subst (λ x. Occurs (IsApply client x count) all) same (subst (λ x. Occurs (IsApply client shard x) all) many raised);
              views = was.views;
            }
