-- What an open request gathers keeps what was said legal.
use Rattle.ds_core.proofs.Words.{◌≡◌, ℕ, ◌+◌, ◌-◌, ◌≤◌, [], ◌++◌, length, refl, ap, sym, ◌∙◌, subst, arith, Option, Some, None, true}
use Rattle.ds_core.proofs.Words.{false, Bool, cond, IfSome, Ok, slice_set, range_with_len, append-nil, set-get_or, first_drawn_id}
use Rattle.ds_core.proofs.Words.{greatest_client, Call, Request, Session, Operation, IsOperationOf, call_of, ids_asked, Step, Work}
use Rattle.ds_core.proofs.Words.{IsGathered, ids_from, ids_of, GatheredParts, draws, gathered_by, shown, Grows, IsSession, StateParts}
use Rattle.ds_core.proofs.Words.{StoreParts, gathered_there, draws-parts, none_ids, Open, moment_of, MachineParts, IsLegal, IsOpen}
use Rattle.ds_core.proofs.Words.{IsSameRun, held_by, just_opened, open_in, session_in, with_gathered, open_then, shown_then, SteppedTo}
use Rattle.ds_core.proofs.Words.{course_of, stepped}
use Rattle.ds_model.specs.Asked.{search_of}
use Rattle.ds_protocol.specs.Searches.{search_parts}
use Rattle.ds_machine.specs.Due.{AppliedWithin}
use Rattle.ds_machine.specs.Gathering.{store_by}
use Rattle.ds_machine.specs.States.{AreUpTo}
use Rattle.ds_machine.proofs.Gatherings.{gathered-nothing}
use Rattle.ds_machine.proofs.Growing.{grows_planned, looked-grows}
use Rattle.ds_machine.proofs.Grown.{grows-same}
use Rattle.ds_machine.proofs.Stepped.{drawn_ids_are, step-gathered, step-grows}
use Rattle.ds_core.specs.Machines.{IsLawfulRequest, IsWorkOf}
use Rattle.ds_request.specs.declared.call.Call.TheVariants as call
use Rattle.ds_protocol.specs.declared.operations.Operation.TheVariants as operation
use Rattle.ds_effects.specs.declared.gathered.Step.TheVariants as steps
use Rattle.ds_core.proofs.Legals.{open-grown, stepped-legal}

-- ---- what is gathered for an operation is gathered for each call that it is of

none-asked : (c : Call) (o : _) → search_of c ≡ Some o → ids_asked c ≡ 0
none-asked (call.Put key true properties) o is = cc
none-asked (call.AllocateIds count) o is = cc
none-asked _ o is = refl

none-applied : (st : StateParts) (s : Session) (c : Call) (o : _) (p : Option ℕ) → search_of c ≡ Some o → AppliedWithin st s c p
none-applied st s c o None is = tt
none-applied st s (call.Apply shard) o (Some n) is = cc
none-applied st s _ o (Some n) is = tt

gathered_back : (st : StateParts) (s : Session) (o : Operation) (c : Call) (g : GatheredParts) → IsOperationOf c o
    → IsGathered st s (call_of o) g → IsGathered st s c g
gathered_back st s (operation.Find r) c g of is = record {
  place = is.place;
  first = by g.first is.first;
  applied = none-applied st s c (Ok (search_parts r)) g.applied of.exact;
  views = is.views;
} where
  by : (p : Option ℕ) → IfSome p (λ first. (first_drawn_id ≤ first) × (s.next_id ≤ first) × (first + 0 ≤ st.store.next))
      → IfSome p (λ first. (first_drawn_id ≤ first) × (s.next_id ≤ first) × (first + ids_asked c ≤ st.store.next))
  by None is = tt
  by (Some first) is = let none = none-asked c (Ok (search_parts r)) of.exact in (is.0, is.1, omega (arith, is.2, none))
gathered_back st s _ c g of is = subst (λ x. IsGathered st s x g) (sym of) is

-- as many ids are asked for
pub asked-alike : (o : Operation) (c : Call) → IsOperationOf c o → ids_asked c ≡ ids_asked (call_of o)
asked-alike (operation.Find r) c of = none-asked c (Ok (search_parts r)) of.exact
asked-alike _ c of = ap ids_asked of

-- the held ids are those from the first one on alone
ids-same : (c : Call) (g h : GatheredParts) → g.first ≡ h.first → ids_of c g ≡ ids_of c h
ids-same (call.Put key true properties) g h same = ap (ids_from 1) same
ids-same (call.AllocateIds count) g h same = ap (ids_from count) same
ids-same _ g h same = refl

-- what is the same either way
same-either : {A B : Type 0} (f : A → B) (b : Bool) (x y : A) → f x ≡ f y → f (cond b x y) ≡ f y
same-either f true x y same = same
same-either f false x y same = refl

-- nothing changes but how far the journal was looked at
pub looked-legal : (m : MachineParts) (new : StateParts) → IsLegal m → new.store ≡ m.state.store
    → new.applied.counts ≡ m.state.applied.counts
    → IsLegal (record m { state = new }) × IsSameRun m (record m { state = new })
    × (course_of (record m { state = new }) ≡ course_of m)
looked-legal m new legal store counts =
    let grows = looked-grows m.state new store counts in
    let same : IsSameRun m (record m { state = new }) =
    (ap (λ (x : StoreParts). x.definitions) store, ap (λ (x : StoreParts). x.shards) store) in
    let next : new.store.next ≡ m.state.store.next + 0 =
    (let e : new.store.next ≡ m.state.store.next = ap (λ (x : StoreParts). x.next) store in omega (arith, e)) in (
      subst (λ os. IsLegal (record m { state = new; opens = os })) (set-get_or m.opens 0 None)
          (stepped-legal m legal new 0 (omega arith) (open_in m 0) grows same (ap (λ (x : StoreParts). x.journal) store) 0 next
          (open-grown m.state new 0 (session_in m 0) (open_in m 0) grows same.0 same.1 (legal.opens 0 (omega arith)).1)
          (sym (append-nil (held_by (open_in m 0))))),
      same,
      λ i. record {
        moment = record (moment_of m) { journal = (store i).journal; counts = counts i; next = (store i).next };
        requests = m.requests;
        replies = m.replies;
      },
    )

-- ---- a step

module _ (m : MachineParts) (legal : IsLegal m) (client : ℕ) (bound : client ≤ greatest_client)
    (many : length m.state.applied.counts ≡ m.state.store.shards) (new : StateParts) (step : Step)
    (up : AreUpTo m.state.applied.counts new.applied.counts) where
  abbrev st : StateParts
  st = m.state

  abbrev old : Option Open
  old = open_in m client

  abbrev s : Session
  s = session_in m client

  abbrev then : Option Open → MachineParts
  then o = record m { state = new; opens = slice_set m.opens client o }

  legal-to : (p : Option Open) → old ≡ p → new.store ≡ record (st.store) { next = (shown_then (shown st) p step).next }
      → new.applied.counts ≡ (shown_then (shown st) p step).counts → IsLegal (then (open_then (shown st) p step))
  legal-to None has store counts =
      stepped-legal m legal new client bound None (grows_planned st new store up)
      (ap (λ (x : StoreParts). x.definitions) store, ap (λ (x : StoreParts). x.shards) store) (ap (λ (x : StoreParts). x.journal) store) 0
      (let e : new.store.next ≡ st.store.next = ap (λ (x : StoreParts). x.next) store in omega (arith, e)) tt
      (sym (ap (λ o. held_by o ++ []) has))
  legal-to (Some o) has store counts =
      stepped-legal m legal new client bound (Some given) grows same (ap (λ (x : StoreParts). x.journal) store)
      (new.store.next - st.store.next) (omega (arith, grows.next)) (
        later.0,
        later.1,
        later.2,
        gathered_back new s o.work.operation o.request.call given.gathered was.4.0
            (step-gathered st new s o.work.operation o.gathered from_first many own.0 step store up
            (gathered_there st s o.work.operation o.request.call o.gathered was.4.0 was.3) counts),
        later.4,
      ) holds
    where
      given : Open
      given = with_gathered (gathered_by (shown st) o.work.operation o.gathered step) o

      own : IsSession st s × IsOpen st client s old
      own = legal.opens client bound

      was : IsOpen st client s (Some o)
      was = subst (IsOpen st client s) has own.1

      from_first : first_drawn_id ≤ st.store.next
      from_first = omega (arith, legal.from_first)

      grows : Grows st new
      grows = step-grows st new s o.work.operation o.gathered from_first many own.0 step store up

      same : IsSameRun m (record m { state = new })
      same = (ap (λ (x : StoreParts). x.definitions) store, ap (λ (x : StoreParts). x.shards) store)

      later : IsOpen new client s (Some o)
      later = open-grown st new client s (Some o) grows same.0 same.1 was

      -- the ids that it draws are held
      holds : held_by (Some given) ≡ held_by old ++ range_with_len st.store.next (new.store.next - st.store.next)
      holds = subst (λ p. held_by (Some given) ≡ held_by p ++ range_with_len st.store.next (new.store.next - st.store.next))
          (sym has)
          (by step (ap (λ (x : StoreParts). x.next) store)) where
            quiet : (g : GatheredParts) → g.first ≡ o.gathered.first → new.store.next ≡ st.store.next
                → ids_of o.request.call g
                ≡ ids_of o.request.call o.gathered ++ range_with_len st.store.next (new.store.next - st.store.next)
            quiet g first same =
                ids-same o.request.call g o.gathered first
                ∙ sym (append-nil (ids_of o.request.call o.gathered))
                ∙ ap (λ n. ids_of o.request.call o.gathered ++ range_with_len st.store.next n)
                (let e : 0 ≡ new.store.next - st.store.next = omega (arith, same) in e)

            by : (x : Step) → new.store.next ≡ (store_by st o.work.operation o.gathered x).next
                → ids_of o.request.call (gathered_by (shown st) o.work.operation o.gathered x)
                ≡ ids_of o.request.call o.gathered ++ range_with_len st.store.next (new.store.next - st.store.next)
            by steps.Commit next = quiet (gathered_by (shown st) o.work.operation o.gathered steps.Commit) refl next
            by steps.Touch next = quiet (gathered_by (shown st) o.work.operation o.gathered steps.Touch) refl next
            by (steps.View shard) next = quiet _ (same-either (λ (h : GatheredParts). h.first) _ _ o.gathered refl) next
            by (steps.Apply shard) next = quiet _ (same-either (λ (h : GatheredParts). h.first) _ _ o.gathered refl) next
            by (steps.Issue count) next = each (draws (shown st) o.work.operation o.gathered count) refl next where
              each : (b : Bool) → draws (shown st) o.work.operation o.gathered count ≡ b
                  → new.store.next ≡ cond b (st.store.next + count) st.store.next
                  → ids_of o.request.call (cond b (record (o.gathered) { first = Some st.store.next }) o.gathered)
                  ≡ ids_of o.request.call o.gathered ++ range_with_len st.store.next (new.store.next - st.store.next)
              each false unmet next = quiet o.gathered refl next
              each true met next =
                  let parts = draws-parts (shown st) o.work.operation o.gathered count met in
                  drawn_ids_are o.request.call (record (o.gathered) { first = Some st.store.next }) st.store.next count refl
                  (asked-alike o.work.operation o.request.call was.4.0 ∙ sym parts.0)
                  ∙ ap (range_with_len st.store.next) (let e : count ≡ new.store.next - st.store.next = omega (arith, next) in e)
                  ∙ ap (λ ids. ids ++ range_with_len st.store.next (new.store.next - st.store.next))
                  (sym (none_ids o.request.call o.gathered parts.1))

  pub step-legal : (now : Option Open) → SteppedTo step st old new now
      → IsLegal (then now) × IsSameRun m (then now) × (course_of (then now) ≡ stepped st.store.shards step client (course_of m))
  step-legal now is = (
    subst (λ o. IsLegal (then o)) (sym is.0) (legal-to old refl is.1 is.2),
    (ap (λ (x : StoreParts). x.definitions) is.1, ap (λ (x : StoreParts). x.shards) is.1),
    λ i. record {
      moment = record {
        journal = (is.1 i).journal;
        counts = is.2 i;
        next = (is.1 i).next;
        sessions = m.sessions;
        opens = slice_set m.opens client (is.0 i);
      };
      requests = m.requests;
      replies = m.replies;
    },
  )

-- a request is opened, which has gathered nothing
pub open-legal : (m : MachineParts) → IsLegal m → (client : ℕ) → client ≤ greatest_client → (r : Request) (work : Work) (shards : ℕ)
    → IsWorkOf m.state (session_in m client) r.call work → length m.state.applied.counts ≡ m.state.store.shards
    → shards ≡ m.state.store.shards → IsLawfulRequest m.state.store.shards client r → open_in m client ≡ None
    → IsLegal (record m { opens = slice_set m.opens client (Some (just_opened r work shards)) })
open-legal m legal client bound r work shards of many all lawful closed =
    stepped-legal m legal m.state client bound (Some (just_opened r work shards)) (grows-same m.state) (refl, refl) refl 0 (omega arith) (
      lawful.0,
      lawful.1,
      lawful.2,
      gathered-nothing m.state (session_in m client) r.call shards (many ∙ sym all) (legal.opens client bound).0.counts_within,
      of,
    )
    (none_ids r.call (just_opened r work shards).gathered refl ∙ sym (ap (λ o. held_by o ++ []) closed))
