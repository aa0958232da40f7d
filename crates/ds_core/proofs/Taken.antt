-- What an event changes: it takes effect as a step of its client may, says what was asked, and what it says stands on what happened.
use Rattle.ds_core.proofs.Words.{◌≡◌, ◌≢◌, ◌⊎◌, inl, inr, ℕ, zero, suc, ◌+◌, Bool, true, false, List, [], ◌∷◌, ◌++◌, length, refl, ap, sym}
use Rattle.ds_core.proofs.Words.{◌∙◌, subst, cond, Option, Some, None, get_or, IfSome, slice_set, option_map, cases_eq, append-nil}
use Rattle.ds_core.proofs.Words.{get_or-set_other, Commit, Request, Session, count_of, first_session, Step, GatheredParts, counts_by}
use Rattle.ds_core.proofs.Words.{draws, Shown, Open, Happening, Happens, Moment, Said, Begun, Comes, Ends, IsTaken, Takes}
use Rattle.ds_core.proofs.Words.{nothing_gathered, open_of, open_then, session_of, shown_at, shown_then, IsCheck, IsCommit, IsTimely}
use Rattle.ds_core.proofs.Words.{IsView, Moves, AreWitnessed, Course, HappensAt, IsOpenThen, IsTouchedThen, StandsOn, TakesAt, gathered_of}
use Rattle.ds_core.proofs.Words.{stepped}
use Rattle.std.specs.Option.{option_or}
use Rattle.std.proofs.lemmas.List.{map-set}
use Rattle.ds_core.specs.Happenings.{Speaks, asked_by, asked_of, opening}
use Rattle.ds_core.specs.Takings.{AreOthersSame}
use Rattle.ds_effects.specs.declared.gathered.Step.TheVariants as steps
use Rattle.ds_core.proofs.Lists.{set-again}
use Rattle.ds_core.proofs.Occurring.{gathers-then, occurs-last, witnessed-more}
use Rattle.ds_core.proofs.Timing.{added-few, advanced-then, opened-then}

-- what happened
abbrev pub happening : {shards : ℕ} {step : Step} {client : ℕ} {begins : Option Request} {old new : Course}
    → HappensAt shards step client begins old new → Happening
happening {step = step} {client = client} {begins = begins} {old = old} {new = new} is = record {
  step = step;
  client = client;
  begins = begins;
  before = old.moment;
  after = new.moment;
  said = option_or is.opens.said is.takes.1.said;
}

-- of another client nothing changes
pub others-are : (client : ℕ) (t u : Moment) → AreOthersSame client t u → (c : ℕ) → (c ≡ client)
    ⊎ ((session_of u c ≡ session_of t c) × (open_of u c ≡ open_of t c))
others-are client t u same c = by (cases_eq c client) where
  by : (c ≡ client) ⊎ (c ≢ client) → (c ≡ client) ⊎ ((session_of u c ≡ session_of t c) × (open_of u c ≡ open_of t c))
  by (inl is) = inl is
  by (inr other) = inr (
    ap (λ ss. get_or ss c (first_session 0)) same.0 ∙ get_or-set_other t.sessions client c (session_of u client) (first_session 0) other,
    ap (λ os. get_or os c None) same.1 ∙ get_or-set_other t.opens client c (open_of u client) None other,
  )

-- ---- a step is taken

-- the open request becomes what it has gathered, whether or not there is a place for it
set-through : (os : List (Option Open)) (i : ℕ) (f : Option Open → Option Open) → f None ≡ None
    → get_or (slice_set os i (f (get_or os i None))) i None ≡ f (get_or os i None)
set-through [] i f none = sym none
set-through (o ∷ os) zero f none = refl
set-through (o ∷ os) (suc i) f none = set-through os i f none

gathered-at : (shards : ℕ) (step : Step) (client : ℕ) (c : Course)
    → open_of (stepped shards step client c).moment client ≡ open_then (shown_at shards c.moment) (open_of c.moment client) step
gathered-at shards step client c = set-through c.moment.opens client (λ p. open_then (shown_at shards c.moment) p step) refl

shown-stepped : (shards : ℕ) (t : Moment) (o : Option Open) (step : Step)
    → record {
      shards = shards;
      journal = t.journal;
      next = (shown_then (shown_at shards t) o step).next;
      counts = (shown_then (shown_at
          shards t) o step).counts;
    } ≡ shown_then (shown_at shards t) o step
shown-stepped shards t None step = refl
shown-stepped shards t (Some o) step = refl

pub takes-of : (shards : ℕ) (step : Step) (client : ℕ) (old new : Course) (is : TakesAt shards step client old new)
    → Takes shards step client (open_of old.moment client) is.1.said old.moment new.moment
takes-of shards step client old new is =
    let t = old.moment in
    let o = open_of t client in
    let mid = (stepped shards step client old).moment in
    let then = open_then (shown_at shards t) o step in record {
      ends = subst (λ x. Ends x (session_of t client) step then is.1.said (open_of new.moment client)) (shown-stepped shards t o step)
          (subst (λ p. Ends (shown_at shards mid) (session_of t client) step p is.1.said (open_of new.moment client))
          (gathered-at shards step client old) is.1.becomes);
      next = is.1.next;
      counts = is.1.counts;
      quiet = is.1.quiet;
      others = (is.1.others.0, is.1.others.1 ∙ set-again t.opens client then (open_of new.moment client));
    }

-- a number that an Issue alone changes
abbrev DrawsTo : Step → ℕ → ℕ → Type 0
DrawsTo (steps.Issue count) n m = (n ≡ m) ⊎ (n ≡ m + count)
DrawsTo _ n m = n ≡ m

draws-to : (st : Shown) (o : Option Open) (step : Step) (n : ℕ) → n ≡ (shown_then st o step).next → DrawsTo step n st.next
draws-to st None (steps.Issue count) n is = inl is
draws-to st None _ n is = is
draws-to st (Some o) (steps.Issue count) n is = by (draws st o.work.operation o.gathered count) is where
  by : (b : Bool) → n ≡ cond b (st.next + count) st.next → (n ≡ st.next) ⊎ (n ≡ st.next + count)
  by true more = inr more
  by false same = inl same
draws-to st (Some o) _ n is = is

-- the journal, to which a Commit alone adds a commit
abbrev AddsTo : Step → List Commit → List Commit → Type 0
AddsTo steps.Commit new old = (new ≡ old) ⊎ ((c : Commit) × (new ≡ old ++ c ∷ []))
AddsTo _ new old = new ≡ old

adds-none : (step : Step) (new old : List Commit) → new ≡ old → AddsTo step new old
adds-none steps.Commit new old same = inl same
adds-none _ new old same = same

adds-to : (client : ℕ) (step : Step) (g : GatheredParts) (said : Option Said) (s later : Session) (old new : List Commit)
    → (said ≡ None → new ≡ old) → IfSome said (λ x. StandsOn client step g x s later old new) → AddsTo step new old
adds-to client step g None s later old new quiet stands = adds-none step new old (quiet refl)
adds-to client step g (Some x) s later old new quiet stands = by stands.commits where
  by : (step ≡ steps.Commit) ⊎ (new ≡ old) → AddsTo step new old
  by (inl is) = subst (λ k. AddsTo k new old) (sym is)
      (added-few (length old + 1) x.reply.body old new stands.added stands.acknowledges stands.journal)
  by (inr same) = adds-none step new old same

moves-of : (shards : ℕ) (step : Step) (t u : Moment) → AddsTo step u.journal t.journal → u.counts ≡ counts_by (shown_at shards t) step
    → DrawsTo step u.next t.next → Moves shards step t u
moves-of shards steps.Commit t u journal counts next = record { journal = journal; counts = counts; next = next }
moves-of shards steps.Touch t u journal counts next = record { journal = journal; counts = counts; next = next }
moves-of shards (steps.View shard) t u journal counts next = record { journal = journal; counts = counts; next = next }
moves-of shards (steps.Apply shard) t u journal counts next = record { journal = journal; counts = counts; next = next }
moves-of shards (steps.Issue count) t u journal counts next = record { journal = journal; counts = counts; next = next }

-- each step adds commits, or none
pub adds-some : (shards : ℕ) (step : Step) (t u : Moment) → Moves shards step t u → (added : List Commit) × (u.journal ≡ t.journal ++ added)
adds-some shards steps.Commit t u is = by is.journal where
  by : (u.journal ≡ t.journal) ⊎ ((c : Commit) × (u.journal ≡ t.journal ++ c ∷ [])) → (added : List Commit)
      × (u.journal ≡ t.journal ++ added)
  by (inl same) = ([], same ∙ sym (append-nil t.journal))
  by (inr (c, more)) = (c ∷ [], more)
adds-some shards _ t u is = ([], is.journal ∙ sym (append-nil t.journal))

-- ---- what is asked

abbrev request_of : Option Open → Option Request
request_of = option_map (λ o. o.request)

asked-at : (os : List (Option Open)) (i : ℕ) → asked_by (asked_of os) i ≡ request_of (get_or os i None)
asked-at [] i = refl
asked-at (o ∷ os) zero = refl
asked-at (o ∷ os) (suc i) = asked-at os i

-- the request stays open, or it is replied to and closed
abbrev Tells : Option Said → Option Request → Option Open → Type 0
Tells None request now = request_of now ≡ request
Tells (Some x) request now = (request ≡ Some x.request) × (now ≡ None)

begun-tells : (st : Shown) (s : Session) (o : Option Open) (begins : Option Request) (said : Option Said) (now : Option Open)
    → Begun st s o begins said now → Tells said (opening (request_of o) begins) now
begun-tells st s (Some o) begins said now is = rw (is.0, is.1) refl
begun-tells st s None None said now is = rw (is.0, is.1) refl
begun-tells st s None (Some r) None None is = absurd is
begun-tells st s None (Some r) None (Some o) is = ap (λ x. Some x) is.0
begun-tells st s None (Some r) (Some x) None is = (ap (λ x. Some x) (sym is.0), refl)
begun-tells st s None (Some r) (Some x) (Some o) is = absurd is

comes-tells : (next : Option Step) (st : Shown) (s : Session) (step : Step) (o : Open) (said : Option Said) (now : Option Open)
    → Comes next st s step o said now → Tells said (Some o.request) now
comes-tells (Some next) st s step o said now is = rw (is.0, is.1) refl
comes-tells None st s step o None now is = absurd is
comes-tells None st s step o (Some x) now is = (ap (λ x. Some x) (sym is.0), is.1)

ends-tells : (st then : Shown) (s : Session) (step : Step) (o : Option Open) (said : Option Said) (now : Option Open)
    → Ends then s step (open_then st o step) said now → Tells said (request_of o) now
ends-tells st then s step None said now is = rw (is.0, is.1) refl
ends-tells st then s step (Some o) said now is = comes-tells _ then s step _ said now is

-- nothing is open, so nothing more is said
both-tell : (early late : Option Said) (request : Option Request) (mid now : Option Open) → Tells early request mid
    → (mid ≡ None → (late ≡ None) × (now ≡ None)) → Tells late (request_of mid) now → Tells (option_or early late) request now
both-tell None late request mid now first none second = subst (λ r. Tells late r now) first second
both-tell (Some x) late request mid now first none second = (first.0, (none first.1).1)

speaks-of : (said : Option Said) (request : Option Request) (os ps : List (Option Open)) (i : ℕ) (now : Option Open)
    → ps ≡ slice_set os i now → Tells said request now → Speaks said request (asked_of os) i (asked_of ps)
speaks-of None request os ps i now is told = ap asked_of is ∙ map-set request_of os i now ∙ ap (slice_set (asked_of os) i) told
speaks-of (Some x) request os ps i now is told =
    (told.0, ap asked_of is ∙ map-set request_of os i now ∙ ap (λ o. slice_set (asked_of os) i (request_of o)) told.1)

-- ---- an event

module _ {shards : ℕ} {step : Step} {client : ℕ} {begins : Option Request} {old new : Course}
    (is : HappensAt shards step client begins old new) where
  abbrev h : Happening
  h = happening is

  abbrev t : Moment
  t = is.between.moment

  abbrev u : Moment
  u = new.moment

  abbrev o : Option Open
  o = open_of t client

  abbrev mid : Moment
  mid = (stepped shards step client is.between).moment

  abbrev late : Option Said
  late = is.takes.1.said

  pub takes : Takes shards step client o late t u
  takes = takes-of shards step client is.between new is.takes

  journal : t.journal ≡ old.moment.journal
  journal = adds-to client steps.Touch (nothing_gathered shards) is.opens.said (session_of old.moment client) (session_of t client)
      old.moment.journal t.journal (λ none. (is.opens.quiet none).0) is.opens.stands

  shown : shown_at shards t ≡ shown_at shards old.moment
  shown = λ i. record { shards = shards; journal = journal i; next = is.opens.next i; counts = is.opens.counts i }

  pub is-taken : IsTaken shards h
  is-taken = record {
    between = t;
    early = is.opens.said;
    late = late;
    said = refl;
    begun = is.opens.becomes;
    shown = shown;
    quiet = is.opens.quiet;
    others = is.opens.others;
    takes = takes;
  }

  counted : u.counts ≡ counts_by (shown_at shards t) step
  counted = takes.counts ∙ by o where
    by : (p : Option Open) → (shown_then (shown_at shards t) p step).counts ≡ counts_by (shown_at shards t) step
    by None = refl
    by (Some p) = refl

  pub is-moved : Moves shards step old.moment u
  is-moved = moves-of shards step old.moment u
      (subst (AddsTo step u.journal) journal (adds-to client step (gathered_of (open_of mid client)) late (session_of t client)
      (session_of u client) t.journal u.journal (λ none. (takes.quiet none).0) is.takes.1.stands))
      (subst (λ x. u.counts ≡ counts_by x step) shown counted)
      (subst (λ n. DrawsTo step u.next n) is.opens.next (draws-to (shown_at shards t) o step u.next takes.next))

  tells : Tells is.opens.said (opening (request_of (open_of old.moment client)) begins) o
  tells = begun-tells (shown_at shards old.moment) (session_of old.moment client) (open_of old.moment client) begins is.opens.said o
      is.opens.becomes

  -- where none is open then, nothing more is said
  none-more : o ≡ None → (late ≡ None) × (open_of u client ≡ None)
  none-more none = subst (λ p. Ends (shown_then (shown_at shards t) o step) (session_of t client) step (open_then (shown_at shards t) p
      step) late (open_of u client)) none takes.ends

  pub said-once : {X : Type 0} (f : Option Said → List X) → f None ≡ [] → f is.opens.said ++ f late ≡ f h.said
  said-once f none = by is.opens.said tells where
    by : (x : Option Said) → Tells x (opening (request_of (open_of old.moment client)) begins) o → f x ++ f late ≡ f (option_or x late)
    by None told = ap (λ xs. xs ++ f late) none
    by (Some x) told = ap (λ y. f (Some x) ++ f y) (none-more told.1).0 ∙ ap (λ xs. f (Some x) ++ xs) none ∙ append-nil (f (Some x))

  pub is-said : Happens h
  is-said = subst (λ r. Speaks h.said (opening r begins) (asked_of old.moment.opens) client (asked_of u.opens))
      (sym (asked-at old.moment.opens client))
      (speaks-of h.said _ old.moment.opens u.opens client (open_of u client)
      (takes.others.1 ∙ ap (λ os. slice_set os client (open_of u client)) is.opens.others.1
      ∙ set-again old.moment.opens client o (open_of u client))
      (both-tell is.opens.said late _ o (open_of u client) tells none-more
      (ends-tells (shown_at shards t) (shown_then (shown_at shards t) o step) (session_of t client) step o late (open_of u client)
      takes.ends)))

  -- ---- where it comes from

  module _ (hs : List Happening) (are : AreWitnessed hs old.moment) where
    abbrev all : List Happening
    all = hs ++ h ∷ []

    more : AreWitnessed all old.moment
    more = witnessed-more hs (h ∷ []) old.moment are

    at_opening : IsOpenThen all client o × IsTouchedThen all client (session_of t client) × IsTimely all is.opens.said
    at_opening =
        opened-then all client (shown_at shards old.moment) (session_of old.moment client) (session_of t client) t.journal
        (open_of old.moment client) begins is.opens.said o is.opens.becomes is.opens.stands
        (λ none. ap (λ ss. get_or ss client (first_session 0)) (is.opens.quiet none).1) (more client).0 (more client).1

    at_step : IsOpenThen all client (open_of u client) × IsTouchedThen all client (session_of u client) × IsTimely all late
    at_step =
        advanced-then all client step (shown_at shards mid) (session_of t client) (session_of u client) u.journal (open_of mid client)
        late (open_of u client) is.takes.1.becomes is.takes.1.stands
        (λ none. ap (λ ss. get_or ss client (first_session 0)) (takes.quiet none).1)
        (record {
          commits = λ at one. occurs-last (IsCommit client (length t.journal + 1)) hs h
              (refl, at, ap (λ (cs : List Commit). length cs + 1) (sym journal), one);
          checks = λ at same. occurs-last (IsCheck client (length t.journal)) hs h
              (refl, at, ap (λ (cs : List Commit). length cs) (sym journal), ap (λ (cs : List Commit). length cs) same);
          views = λ shard at. occurs-last (IsView client shard (count_of mid.counts shard)) hs h
              (refl, at, ap (λ ns. count_of ns shard) takes.counts);
        })
        (subst (IsOpenThen all client) (sym (gathered-at shards step client is.between)) (gathers-then hs h (shown_at shards t) is.takes.0
        (sym journal) (sym is.opens.counts) (sym is.opens.next) step client o refl refl counted takes.next at_opening.0)) at_opening.1

    pub is-timely : IsTimely all h.said
    is-timely = by is.opens.said at_opening.2 where
      by : (x : Option Said) → IsTimely all x → IsTimely all (option_or x late)
      by None early = at_step.2
      by (Some x) early = early

    pub is-witnessed : AreWitnessed all u
    is-witnessed c = by (others-are client t u takes.others c) (others-are client old.moment t is.opens.others c) where
      At : ℕ → Type 0
      At k = IsOpenThen all k (open_of u k) × IsTouchedThen all k (session_of u k)

      by : (c ≡ client) ⊎ ((session_of u c ≡ session_of t c) × (open_of u c ≡ open_of t c))
          → (c ≡ client) ⊎ ((session_of t c ≡ session_of old.moment c) × (open_of t c ≡ open_of old.moment c)) → At c
      by (inl same) b = subst At (sym same) (at_step.0, at_step.1)
      by (inr a) (inl same) = subst At (sym same) (at_step.0, at_step.1)
      by (inr a) (inr b) = (
        subst (IsOpenThen all c) (sym (a.1 ∙ b.1)) (more c).0,
        subst (IsTouchedThen all c) (sym (a.0 ∙ b.0)) (more c).1,
      )
