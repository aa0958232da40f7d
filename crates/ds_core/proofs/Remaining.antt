-- Each step for which an open request waits brings it nearer to its reply.
use Rattle.ds_core.proofs.Words.{◌≡◌, ℕ, ◌+◌, ◌<◌, ◌≤◌, List, [], ◌∷◌, length, refl, ap, sym, ◌∙◌, subst, arith, Option, Some, None, suc}
use Rattle.ds_core.proofs.Words.{zero, get_or, take, replicate, slice_set, greatest_client, Session, first_session, Step, Operation}
use Rattle.ds_core.proofs.Words.{GatheredParts, gathered_by, shown_by, Shown, missing, shown, Open, Said, moment_of, none_open, IsLegal}
use Rattle.ds_core.proofs.Words.{IsOpen, IsSameRun, MachineParts, open_in, session_in, with_gathered, AreWaiting, Comes, IsQuiet, Takes}
use Rattle.ds_core.proofs.Words.{WaitsFor, open_of, session_of, shown_at, Course, GoesOn, TakesAt, course_of}
use Rattle.std.proofs.Common.{drop}
use Rattle.std.proofs.lemmas.List.{take_all}
use Rattle.ds_machine.proofs.Left.{left, waits, waits-few}
use Rattle.ds_machine.proofs.Lowering.{step-lowers}
use Rattle.ds_effects.specs.declared.gathered.Step.TheVariants as steps
use Rattle.ds_core.proofs.Happened.{alone, goes-step}
use Rattle.ds_core.proofs.Places.{open-viewed, open-within}
use Rattle.ds_core.proofs.Taken.{takes-of}
use Rattle.ds_core.proofs.Waiting.{happened-waiting}

-- what is left of a client's open request
abbrev pub remains : Shown → Session → Option Open → ℕ
remains st s None = 0
remains st s (Some o) = 1 + left st s o.work.operation o.gathered steps.Touch

abbrev pub remaining : ℕ → Course → ℕ → ℕ
remaining shards c client = remains (shown_at shards c.moment) (session_of c.moment client) (open_of c.moment client)

-- a step that was taken leaves no less than none
left-touch : (st : Shown) (s : Session) (o : Operation) (g : GatheredParts) (step next : Step) → missing st s o g step ≡ Some next
    → left st s o g steps.Touch ≤ left st s o g step
left-touch st s o g step next is =
    let few = waits-few (missing st s o g steps.Touch) in
    let one : waits (missing st s o g step) ≡ 1 = ap waits is in
    omega (arith, few, one)

module _ (m : MachineParts) (c : Course) (client : ℕ) (step : Step) (legal : IsLegal m) (bound : client ≤ greatest_client)
    (is_at : TakesAt m.state.store.shards step client (course_of m) c) where
  abbrev shards : ℕ
  shards = m.state.store.shards

  abbrev s : Session
  s = session_in m client

  less-of : (o : Open) (said : Option Said) → open_in m client ≡ Some o
      → missing (shown m.state) s o.work.operation o.gathered steps.Touch ≡ Some step
      → Takes shards step client (Some o) said (course_of m).moment c.moment
      → remaining shards c client < 1 + left (shown m.state) s o.work.operation o.gathered steps.Touch
  less-of o said has waits_for takes =
      by (missing then s o.work.operation given.gathered step) said refl takes.ends takes.quiet
    where
      counted : length m.state.applied.counts ≡ shards
      counted = is_at.0

      own : IsOpen m.state client s (Some o)
      own = subst (IsOpen m.state client s) has (legal.opens client bound).1

      then : Shown
      then = shown_by (shown m.state) o.work.operation o.gathered step

      given : Open
      given = with_gathered (gathered_by (shown m.state) o.work.operation o.gathered step) o

      by : (next : Option Step) (x : Option Said) → missing then s o.work.operation given.gathered step ≡ next
          → Comes next then s step given x (open_of c.moment client) → (x ≡ None → IsQuiet (course_of m).moment c.moment)
          → remaining shards c client < 1 + left (shown m.state) s o.work.operation o.gathered steps.Touch
      by None None is comes quiet = absurd comes
      by None (Some x) is comes quiet =
          let gone : remaining shards c client ≡ 0 =
          ap (remains (shown_at shards c.moment) (session_of c.moment client)) comes.1 in
          omega (arith, gone)
      by (Some next) x is comes quiet =
          let still = quiet comes.0 in
          let here : remaining shards c client ≡ 1 + left then s o.work.operation given.gathered steps.Touch =
          (λ i. remains (record { shards = shards; journal = still.0 i; next = takes.next i; counts = takes.counts i })
          (get_or (still.1 i) client (first_session 0)) (comes.1 i)) in
          let touch = left-touch then s o.work.operation given.gathered step next is in
          let lower = step-lowers (shown m.state) s o.work.operation o.gathered step steps.Touch
          (open-viewed m.state client s o own counted) counted own.4.1.lawful legal.least own.4.1.shard waits_for in
          omega (arith, here, touch, lower)

  pub remaining-less : WaitsFor (shown m.state) s (open_in m client) step
      → remaining shards c client < remaining shards (course_of m) client
  remaining-less waits_for = by (open_in m client) refl waits_for (takes-of shards step client (course_of m) c is_at) where
    by : (p : Option Open) → open_in m client ≡ p → WaitsFor (shown m.state) s p step
        → Takes shards step client p is_at.1.said (course_of m).moment c.moment → remaining shards c client < remains (shown m.state) s p
    by None has none taken = absurd none
    by (Some o) has waits_for taken = less-of o is_at.1.said has waits_for taken

-- ---- client by client

pub closed-more : (os : List (Option Open)) (i : ℕ) → i < length os → take i os ≡ replicate i None
    → take (suc i) (slice_set os i None) ≡ replicate (suc i) None
closed-more [] i below is = absurd (omega (arith, below))
closed-more (o ∷ os) zero below is = refl
closed-more (o ∷ os) (suc i) below is =
    ap (λ p. p ∷ take (suc i) (slice_set os i None)) (ap (λ ps. get_or ps 0 None) is)
    ∙ ap (λ ps. None ∷ ps) (closed-more os i (omega (arith, below)) (ap (λ ps. drop 1 ps) is))

pub all-closed : (os : List (Option Open)) (i : ℕ) → i ≡ greatest_client + 1 → length os ≡ greatest_client + 1
    → take i os ≡ replicate i None → os ≡ none_open
all-closed os i last many is =
    sym (take_all i os (omega (arith, last, many))) ∙ is ∙ ap (λ n. replicate n None) last

-- ---- a step that was missing

module _ (m n o : MachineParts) (client : ℕ) (step : Step) (legal : IsLegal m) (bound : client ≤ greatest_client)
    (waiting : AreWaiting m.state.store.shards (moment_of m)) (still : course_of n ≡ course_of m) (looked : IsSameRun m n)
    (same : IsSameRun n o) (taken : TakesAt n.state.store.shards step client (course_of n) (course_of o))
    (waits_for : WaitsFor (shown m.state) (session_in m client) (open_in m client) step) where
  takes : TakesAt m.state.store.shards step client (course_of m) (course_of o)
  takes = subst (λ c. TakesAt m.state.store.shards step client c (course_of o)) still
      (subst (λ k. TakesAt k step client (course_of n) (course_of o)) looked.1 taken)

  pub step-done : AreWaiting o.state.store.shards (moment_of o) × (o.opens ≡ slice_set m.opens client (open_in o client))
      × GoesOn m.state.store.shards (course_of m) (course_of o)
      × (remaining o.state.store.shards (course_of o) client < remaining m.state.store.shards (course_of m) client)
  step-done =
      let shards = m.state.store.shards in
      let all = sym (same.1 ∙ looked.1) in (
        subst (λ k. AreWaiting k (moment_of o)) all
            (happened-waiting (alone shards step client (course_of m) (course_of o) takes) (open-within m legal) waiting),
        (takes-of shards step client (course_of m) (course_of o) takes).others.1,
        goes-step shards step client (course_of m) (course_of o) takes waits_for,
        subst (λ k. remaining k (course_of o) client < remaining shards (course_of m) client) all
            (remaining-less m (course_of o) client step legal bound takes waits_for),
      )
