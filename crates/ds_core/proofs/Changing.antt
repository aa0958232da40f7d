-- What a reply, a look and an opening change.
use Rattle.ds_core.proofs.Words.{◌≡◌, ◌≢◌, ◌⊎◌, inl, inr, ℕ, ◌+◌, ◌≤◌, Bool, false, List, [], ◌++◌, length, refl, ap, sym, ◌∙◌, subst}
use Rattle.ds_core.proofs.Words.{arith, Option, Some, None, get_or, IfSome, IsPermutation, Ok, is_some, replicate, slice_set, append-nil}
use Rattle.ds_core.proofs.Words.{get_or-set_same, set-get_or, greatest_client, Call, Request, Body, TooLong, BodyAnswers, Reading}
use Rattle.ds_core.proofs.Words.{client_of, Session, first_session, World, IsOperationOf, Effect, Plan, Step, GatheredParts, Work, IsDue}
use Rattle.ds_core.proofs.Words.{ids_of, store_after, session_after, Shown, missing, shown, StateParts, StoreParts, world, AreNumbersOf}
use Rattle.ds_core.proofs.Words.{ToldAlways, none_ids, Open, Said, MachineParts, IsDueNow, IsLegal, IsOpen, IsSameRun, closing, held}
use Rattle.ds_core.proofs.Words.{held_by, just_opened, noted, open_in, performed, session_in, Begun, Comes, Ends, WaitsFor}
use Rattle.ds_core.proofs.Words.{nothing_gathered, open_of, session_of, shown_at, Advances, Course, OfShard, StandsOn, course_of}
use Rattle.ds_core.proofs.Words.{gathered_of}
use Rattle.ds_model.specs.Answers.{CallAnswers, SearchAnswers, TransactionAnswers}
use Rattle.ds_model.specs.Asked.{Search}
use Rattle.ds_model.specs.Groups.{place_in}
use Rattle.ds_model.specs.Refusals.{Places}
use Rattle.ds_model.specs.Sessions.{Transaction}
use Rattle.ds_model.proofs.OkReplies.{OkAnswers, ok_answers}
use Rattle.ds_effects.specs.declared.effect.Due.{Due}
use Rattle.ds_machine.specs.Due.{IsDuePlan}
use Rattle.ds_machine.specs.Missing.{IfReply, IsNext}
use Rattle.ds_machine.specs.Told.{IsTold}
use Rattle.ds_core.specs.Machines.{IsReplyTo, IsToldAs, IsToldOpen}
use Rattle.ds_core.specs.Witnesses.{Changes, OpensAt}
use Rattle.ds_request.specs.declared.call.Call.TheVariants as call
use Rattle.ds_reply.specs.declared.reply.Body.TheVariants as body
use Rattle.ds_effects.specs.declared.effect.Due.TheVariants as due
use Rattle.ds_effects.specs.declared.gathered.Step.TheVariants as steps
use Rattle.ds_core.proofs.Legals.{held-at, said-legal}
use Rattle.ds_core.proofs.Lists.{set-again}

-- ---- an apply's reply tells of the shard that was asked for

module _ (w : World) (s later : Session) (client : ℕ) (applied : Bool) (count m shard : ℕ) where
  abbrev said_apply : Body
  said_apply = body.Apply applied count m shard

  of-call : (c : Call) → CallAnswers w client s c said_apply later → c ≡ call.Apply shard
  of-call (call.Apply n) a = ap call.Apply (sym a.0)
  of-call call.Commit a = by s.transaction a where
    by : (t : Option Transaction) → TransactionAnswers w client s t said_apply later → call.Commit ≡ call.Apply shard
    by None b = absurd b
    by (Some t) b = absurd b
  of-call _ a = absurd a

  of-search : (c : Call) (search : Search) (places : Places) → SearchAnswers w s c search places said_apply later → c ≡ call.Apply shard
  of-search (call.Query namespace kind ancestor filters orders select offset limit start end cursor) search places a = absurd a
  of-search (call.Gql namespace text args names start end cursor) search places a = absurd a
  of-search _ search places a = absurd a

  of-ok : (c : Call) → OkAnswers w s (Ok (record { client = client; call = c })) said_apply later → c ≡ call.Apply shard
  of-ok c (inl a) = of-call c a
  of-ok c (inr (search, places, a)) = of-search c search places a

  pub of-apply : (c : Call) → BodyAnswers w s (Ok (record { client = client; call = c })) said_apply later
      → c ≡ call.Apply shard
  of-apply c answers =
      let reading : Reading = λ content. Ok (record { client = client; call = c }) in
      of-ok c (ok_answers w s later reading (λ content. tt) (record { number = 0; content = TooLong })
      (record { client = client_of reading TooLong; line = 0; body = said_apply }) refl
      (record { numbered = refl; addressed = refl; said = answers }))

shard-of : (w : World) (s later : Session) (client : ℕ) (c : Call) (b : Body)
    → BodyAnswers w s (Ok (record { client = client; call = c })) b later → OfShard c b
shard-of w s later client c (body.Apply applied count m shard) answers = of-apply w s later client applied count m shard c answers
shard-of w s later client c _ answers = tt

-- ---- nothing is said

still-changes : (c : Course) (client shards : ℕ) (step : Step) (g : GatheredParts) (Becomes : Option Said → Option Open → Type 0)
    → Becomes None (open_of c.moment client) → Changes client step (shown_at shards c.moment) g Becomes c c
still-changes c client shards step g Becomes becomes = record {
  said = None;
  requests = sym (append-nil c.requests);
  replies = sym (append-nil c.replies);
  becomes = becomes;
  next = refl;
  counts = refl;
  quiet = λ none. (refl, refl);
  others = (sym (set-get_or c.moment.sessions client (first_session 0)), sym (set-get_or c.moment.opens client None));
  stands = tt;
}

pub closed-one : (o : Option Open) → is_some o ≡ false → o ≡ None
closed-one None closed = refl
closed-one (Some o) closed = cc

begun-still : (st : Shown) (s : Session) (o : Option Open) (begins : Option Request) → (o ≡ None → begins ≡ None)
    → Begun st s o begins None o
begun-still st s (Some o) begins had = (refl, refl)
begun-still st s None None had = (refl, refl)
begun-still st s None (Some r) had = let none = had refl in cc

-- a request is open already, or none begins
pub still-opens : (shards client : ℕ) (begins : Option Request) (c : Course) → (open_of c.moment client ≡ None → begins ≡ None)
    → OpensAt shards client begins c c
still-opens shards client begins c had =
    still-changes c client shards steps.Touch (nothing_gathered shards) _
    (begun-still (shown_at shards c.moment) (session_of c.moment client) (open_of c.moment client) begins had)

-- ---- a reply

pub due_told : (st : StateParts) (s : Session) (client : ℕ) (c : Call) (ids : List ℕ) (b : Body) (e : Effect) → b ≢ body.NoMemory
    → IsDuePlan st s client c ids b e → IsDue st s client c ids b e
due_told st s client c ids b e told (inl is) = absurd (told is)
due_told st s client c ids b e told (inr due) = due

module _ (m : MachineParts) (legal : IsLegal m) (client : ℕ) (bound : client ≤ greatest_client) (r : Request) (g : GatheredParts) (b : Body)
    (e : Effect) (own : r.client ≡ client) (memory : b ≢ body.NoMemory)
    (plan : IsDuePlan m.state (session_in m client) client r.call (ids_of r.call g) b e) where
  abbrev seen_by : Session
  seen_by = session_in m client

  abbrev then : MachineParts
  then = noted client r b (performed e client (closing client m))

  is_due : IsDue m.state seen_by client r.call (ids_of r.call g) b e
  is_due = due_told m.state seen_by client r.call (ids_of r.call g) b e memory plan

  pub told-legal : held_by (open_in m client) ≡ ids_of r.call g → IsLegal then × IsSameRun m then
  told-legal held_is = (
    said-legal m legal client bound r (ids_of r.call g) b e own
        (subst (λ ids. IsPermutation (held m.opens) (ids ++ held (slice_set m.opens client None))) held_is
        (held-at m.opens client (omega (arith, legal.places)))) memory is_due,
    (is_due.definitions, is_due.shards),
  )

  pub told-changes : (step : Step) (Becomes : Option Said → Option Open → Type 0) → IsTold m.state seen_by g step b e
      → Becomes (Some (record { request = r; reply = record { client = client; line = length m.replies + 1; body = b } })) None
      → Changes client step (shown m.state) g Becomes (course_of m) (course_of then)
  told-changes step Becomes told becomes = record {
    said = Some (record { request = r; reply = record { client = client; line = length m.replies + 1; body = b } });
    requests = refl;
    replies = refl;
    becomes = rw closed becomes;
    next = is_due.next;
    counts = refl;
    quiet = λ none. cc;
    others = (ap (slice_set m.sessions client) (sym seen), ap (slice_set m.opens client) (sym closed));
    stands = record {
      own = own;
      draws = is_due.draws;
      shard = shard-of (world (store_after e m.state.store) None) seen_by (session_after e m.state.store seen_by) client r.call b
          (is_due.answers None);
      touches = λ group place is. told.touches group place (ap (λ (x : Session). place_in x.transaction group) (sym seen) ∙ is);
      added = is_due.added;
      journal = is_due.journal;
      acknowledges = is_due.acknowledges;
      commits = by told.commits;
    };
  } where
    closed : get_or (slice_set m.opens client None) client None ≡ None
    closed = get_or-set_same m.opens client None None (omega (arith, legal.places))

    seen : get_or (slice_set m.sessions client (session_after e m.state.store seen_by)) client (first_session 0)
        ≡ session_after e m.state.store seen_by
    seen = get_or-set_same m.sessions client (session_after e m.state.store seen_by) (first_session 0) (omega (arith, legal.clients))

    by : (step ≡ steps.Commit) ⊎ (store_after e m.state.store ≡ m.state.store)
        → (step ≡ steps.Commit) ⊎ ((store_after e m.state.store).journal ≡ m.state.store.journal)
    by (inl is) = inl is
    by (inr same) = inr (ap (λ (x : StoreParts). x.journal) same)

-- ---- what the client's open request comes to

pub ends-none : (st : StateParts) (s : Session) (client : ℕ) (step : Step) (o : Option Open) → IsDueNow st s client step o None
    → Ends (shown st) s step o None o
ends-none st s client step None is = (refl, refl)
ends-none st s client step (Some o) is = absurd is

pub ends-waits : (st : StateParts) (s : Session) (client : ℕ) (step next : Step) (o : Option Open)
    → IsDueNow st s client step o (Some (due.Waits next)) → Ends (shown st) s step o None o
ends-waits st s client step next None is = cc
ends-waits st s client step next (Some o) is = rw is (refl, refl)

-- what is due to each call that the operation is of is due to the request's
pub due-now : (old new : StateParts) (s : Session) (client : ℕ) (step : Step) (o : Open) (d : Due) → shown new ≡ shown old
    → IsOperationOf o.request.call o.work.operation
    → IfReply d (λ p. (c : Call) → IsOperationOf c o.work.operation → IsDuePlan new s client c (ids_of c o.gathered) p.body p.effect)
    → IfReply d (λ p. IsTold new s o.gathered step p.body p.effect)
    → IsNext (missing (shown old) s o.work.operation o.gathered step) d → IsDueNow new s client step (Some o) (Some d)
due-now old new s client step o (due.Waits next) same of plan told is =
    subst (λ x. missing x s o.work.operation o.gathered step ≡ Some next) (sym same) is
due-now old new s client step o (due.Reply p) same of plan told is = record {
  due = plan o.request.call of;
  told = told;
  next = subst (λ x. IsNext (missing x s o.work.operation o.gathered step) (due.Reply p)) (sym same) is;
}

-- what it waits for
pub next-none : (st : StateParts) (s : Session) (client : ℕ) (o : Option Open) → IsDueNow st s client steps.Touch o None → o ≡ None
next-none st s client None is = refl
next-none st s client (Some o) is = absurd is

pub next-waits : (st : StateParts) (shows : Shown) (s : Session) (client : ℕ) (o : Option Open) (next : Step) → shown st ≡ shows
    → IsDueNow st s client steps.Touch o (Some (due.Waits next)) → WaitsFor shows s o next
next-waits st shows s client None next same is = cc
next-waits st shows s client (Some o) next same is = ap (λ x. missing x s o.work.operation o.gathered steps.Touch) (sym same) ∙ is

-- a reply is due to an open request
pub reply-open : (st : StateParts) (s : Session) (client : ℕ) (step : Step) (o : Option Open) (p : Plan)
    → IsDueNow st s client step o (Some (due.Reply p)) → (q : Open) × (o ≡ Some q) × IsReplyTo st s client step q p.body p.effect
reply-open st s client step None p is = cc
reply-open st s client step (Some q) p is = (q, refl, is)

-- `m` is the machine before it looked at its journal, and `looked` the one after
module _ (m looked : MachineParts) (legal : IsLegal looked) (client : ℕ) (bound : client ≤ greatest_client) (step : Step)
    (same : IsSameRun m looked) (still : course_of looked ≡ course_of m) (shows : shown looked.state ≡ shown m.state) where
  abbrev s : Session
  s = session_in looked client

  abbrev o : Option Open
  o = open_in looked client

  abbrev Advanced : MachineParts → Type 0
  Advanced n = IsLegal n × IsSameRun m n × Advances m.state.store.shards step client (course_of m) (course_of n)

  -- so much of the machine doesn't depend on what was looked at
  advanced : (n : MachineParts) → Changes client step (shown looked.state) (gathered_of o) (Ends (shown looked.state) s step o)
      (course_of looked) (course_of n) → Advances m.state.store.shards step client (course_of m) (course_of n)
  advanced n changes =
      subst (λ (x : Shown × Course). Changes client step x.0 (gathered_of (open_of x.1.moment client)) (Ends x.0 (session_of x.1.moment
      client) step (open_of x.1.moment client)) x.1 (course_of n)) (λ i. (shows i, still i)) changes

  pub advance-still : Ends (shown looked.state) s step o None o → Advanced looked
  advance-still ends = (
    legal,
    same,
    advanced looked (still-changes (course_of looked) client looked.state.store.shards step (gathered_of o) _ ends),
  )

  pub advance-reply : (p : Plan) (n : MachineParts) → IsDueNow looked.state s client step o (Some (due.Reply p))
      → IsToldOpen client p.body p.effect looked n → Advanced n
  advance-reply p n is told_open =
      let q = told_open.0 in
      let has = told_open.1 in
      let memory = told_open.2.0 in
      let own = (subst (λ x. IsOpen looked.state client s x) has (legal.opens client bound).1).0 in
      let reply : IsReplyTo looked.state s client step q p.body p.effect =
      subst (λ x. IsDueNow looked.state s client step x (Some (due.Reply p))) has is in
      let now = told-legal looked legal client bound q.request q.gathered p.body p.effect own memory reply.due (ap held_by has) in
      subst Advanced (sym told_open.2.1) (
        now.0,
        (now.1.0 ∙ same.0, now.1.1 ∙ same.1),
        advanced (noted client q.request p.body (performed p.effect client (closing client looked)))
            (subst (λ x. Changes client step (shown looked.state) (gathered_of x) (Ends (shown looked.state) s step x) (course_of looked)
            (course_of (noted client q.request p.body (performed p.effect client (closing client looked))))) (sym has)
            (told-changes looked legal client bound q.request q.gathered p.body p.effect own memory reply.due step
            (Ends (shown looked.state) s step (Some q)) reply.told (comes q memory reply reply.next))),
      )
    where
      comes : (q : Open) → p.body ≢ body.NoMemory → IsReplyTo looked.state s client step q p.body p.effect
          → (missing (shown looked.state) s q.work.operation q.gathered step ≡ None) ⊎ (p.body ≡ body.NoMemory)
          → Ends (shown looked.state) s step (Some q)
          (Some (record { request = q.request; reply = record { client = client; line = length looked.replies + 1; body = p.body } })) None
      comes q memory reply (inl none) = rw none (refl, refl, reply.told.numbers)
      comes q memory reply (inr is) = absurd (memory is)

-- ---- a request opens

begun-by : (next : Option Step) (st : Shown) (s : Session) (r : Request) (work : Work) (n : ℕ) (said : Option Said) (now : Option Open)
    → n ≡ st.shards → IsOperationOf r.call work.operation → Comes next st s steps.Touch (just_opened r work n) said now
    → Begun st s None (Some r) said now
begun-by (Some next) st s r work n None now all of comes =
    rw comes.1 (refl, of, λ i. record { place = None; first = None; applied = None; views = replicate (all i) None })
begun-by (Some next) st s r work n (Some x) now all of comes = let none = comes.0 in cc
begun-by None st s r work n None now all of comes = absurd comes
begun-by None st s r work n (Some x) now all of comes =
    rw comes.1 (comes.0, subst (λ k. AreNumbersOf st s (nothing_gathered k) steps.Touch x.reply.body) all comes.2)

module _ (m : MachineParts) (legal : IsLegal m) (client : ℕ) (bound : client ≤ greatest_client) (r : Request)
    (closed : open_in m client ≡ None) where
  abbrev now_seen : Session
  now_seen = session_in m client

  -- it may be replied to at once
  pub opened-changes : (work : Work) (n : ℕ) (c : Course) → n ≡ m.state.store.shards → IsOperationOf r.call work.operation
      → Advances m.state.store.shards steps.Touch client
      (course_of (record m { opens = slice_set m.opens client (Some (just_opened r work n)) })) c
      → OpensAt m.state.store.shards client (Some r) (course_of m) c
  opened-changes work n c all of is = record {
    said = is.said;
    requests = is.requests;
    replies = is.replies;
    becomes = rw closed (begun-by (missing (shown m.state) now_seen work.operation (just_opened r work n).gathered steps.Touch)
        (shown m.state) now_seen r work n is.said (open_of c.moment client) all of
        (subst (λ o. Ends (shown m.state) now_seen steps.Touch o is.said (open_of c.moment client)) here is.becomes));
    next = is.next;
    counts = is.counts;
    quiet = is.quiet;
    others = (is.others.0, is.others.1 ∙ set-again m.opens client (Some (just_opened r work n)) (open_of c.moment client));
    stands = subst (λ g. IfSome is.said (λ x. StandsOn client steps.Touch g x now_seen (session_of c.moment client) m.state.store.journal
        c.moment.journal)) (ap gathered_of here ∙ ap nothing_gathered all) is.stands;
  } where
    here : get_or (slice_set m.opens client (Some (just_opened r work n))) client None ≡ Some (just_opened r work n)
    here = get_or-set_same m.opens client (Some (just_opened r work n)) None (omega (arith, legal.places))

  -- it is refused
  pub refused-changes : (b : Body) (e : Effect) (n : MachineParts) → r.client ≡ client
      → IsDuePlan m.state now_seen client r.call [] b e → ToldAlways m.state now_seen b e → IsToldAs client r b e m n
      → IsLegal n × IsSameRun m n × OpensAt m.state.store.shards client (Some r) (course_of m) (course_of n)
  refused-changes b e n own due told is =
      let nothing = nothing_gathered m.state.store.shards in
      let none = none_ids r.call nothing refl in
      let kept : closing client m ≡ m = ap (λ os. record m { opens = os }) (ap (slice_set m.opens client) (sym closed)
      ∙ set-get_or m.opens client None) in
      let plan = subst (λ ids. IsDuePlan m.state now_seen client r.call ids b e) (sym none) due in
      let legal_now = told-legal m legal client bound r nothing b e own is.0 plan (ap held_by closed ∙ sym none) in
      subst (λ x. IsLegal x × IsSameRun m x × OpensAt m.state.store.shards client (Some r) (course_of m) (course_of x))
      (ap (λ x. noted client r b (performed e client x)) kept ∙ sym is.1) (
        legal_now.0,
        legal_now.1,
        told-changes m legal client bound r nothing b e own is.0 plan steps.Touch
            (Begun (shown m.state) now_seen (open_in m client) (Some r)) (told nothing steps.Touch)
            (rw closed (refl, (told nothing steps.Touch).numbers)),
      )
