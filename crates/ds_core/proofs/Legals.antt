-- What a machine has said stays one legal round, whatever its steps are.
use Rattle.ds_core.proofs.Words.{◌≡◌, ◌≢◌, ◌⊎◌, inl, inr, ℕ, zero, suc, ◌+◌, ◌-◌, ◌<◌, ◌≤◌, List, [], ◌∷◌, ◌++◌, length, refl, ap, sym}
use Rattle.ds_core.proofs.Words.{◌∙◌, subst, arith, Option, Some, None, get_or, append_assoc, length-append, Ok, replicate, slice_get}
use Rattle.ds_core.proofs.Words.{slice_set, flat_map, IsPermutation, range_with_len, cases_eq, flat_map-append, append-nil}
use Rattle.ds_core.proofs.Words.{get_or-set_other, get_or-set_same, set-get_or, All-nil, All-append, first_drawn_id, greatest_client}
use Rattle.ds_core.proofs.Words.{IndexDef, Commit, Request, Body, Reply, BodyAnswers, acknowledged, drawn_by_call, Session, first_session}
use Rattle.ds_core.proofs.Words.{first_sessions, World, Effect, IsDue, store_after, session_after, StateParts, IsSession, Grows, world}
use Rattle.ds_core.proofs.Words.{Open, Transcript, moment_of, none_open, MachineParts, IsLegal, IsOpen, IsSameRun, closing, held, held_by}
use Rattle.ds_core.proofs.Words.{noted, open_in, performed, session_in, AreAnswered, IsLegalRound, AreWaiting, IsPast, course_of}
use Rattle.std.specs.Prelude.{IsTrue}
use Rattle.std.proofs.lemmas.List.{get_or-replicate, length-set}
use Rattle.std.proofs.lemmas.List.Sorted.{IsPermutation-append_comm, IsPermutation-append_left, IsPermutation-append_right}
use Rattle.std.proofs.lemmas.List.Sorted.{IsPermutation-refl, IsPermutation-sym, IsPermutation-trans}
use Rattle.std.proofs.lemmas.Option.{slice_get-get_or}
use Rattle.ds_base.specs.Limits.{most_shards}
use Rattle.ds_model.specs.Asked.{has_shard}
use Rattle.ds_model.specs.Legal.{accepted, printed_next}
use Rattle.ds_model.specs.Sessions.{first_id}
use Rattle.ds_machine.proofs.Lifted.{due-said}
use Rattle.ds_machine.proofs.Stepped.{unrefused-grown}
use Rattle.ds_machine.proofs.Gatherings.{gathered-grown}
use Rattle.ds_machine.proofs.Grown.{session-grown, grows-after, session-after, up_to-same}
use Rattle.ds_core.specs.Rounds.{AreNumbered, drawn_ids}
use Rattle.ds_reply.specs.declared.reply.Body.TheVariants as body
use Rattle.ds_core.proofs.Lists.{numbers-append, same-there}

-- ---- open requests

pub open-grown : (old new : StateParts) (client : ℕ) (s : Session) (o : Option Open) → Grows old new
    → new.store.definitions ≡ old.store.definitions → new.store.shards ≡ old.store.shards
    → IsOpen old client s o → IsOpen new client s o
open-grown old new client s None grows definitions same is = tt
open-grown old new client s (Some o) grows definitions same is = (
  is.0,
  is.1,
  subst (λ n. IsTrue (has_shard n o.request.call)) (sym same) is.2,
  gathered-grown old new grows s o.request.call o.gathered is.3,
  (is.4.0, unrefused-grown old new s o.work.operation o.work.ready definitions same grows.next is.4.1),
)

-- where the store has grown and one client has seen this and asks that
pub opens-then : (m : MachineParts) (new : StateParts) (client : ℕ) (s : Session) (o : Option Open) → IsLegal m
    → client ≤ greatest_client → Grows m.state new → IsSameRun m (record m { state = new }) → IsSession new s → IsOpen new client s o
    → (c : ℕ) → c ≤ greatest_client → IsSession new (get_or (slice_set m.sessions client s) c (first_session 0))
    × IsOpen new c (get_or (slice_set m.sessions client s) c (first_session 0)) (get_or (slice_set m.opens client o) c None)
opens-then m new client s o legal bound grows same seen is c within = by (cases_eq c client) where
  Keeps : ℕ → Session → Option Open → Type 0
  Keeps n t p = IsSession new t × IsOpen new n t p

  by : (c ≡ client) ⊎ (c ≢ client)
      → Keeps c (get_or (slice_set m.sessions client s) c (first_session 0)) (get_or (slice_set m.opens client o) c None)
  by (inl e) =
      let below : client < length m.sessions = omega arith in
      let place : client < length m.opens = omega arith in
      subst (λ n. Keeps n (get_or (slice_set m.sessions client s) n (first_session 0)) (get_or (slice_set m.opens client o) n None))
      (sym e) (rw (get_or-set_same m.sessions client s (first_session 0) below, get_or-set_same m.opens client o None place) (seen, is))
  by (inr other) =
      let was = legal.opens c within in
      rw (get_or-set_other m.sessions client c s (first_session 0) other, get_or-set_other m.opens client c o None other) (
        session-grown m.state new (session_in m c) grows was.0,
        open-grown m.state new c (session_in m c) (open_in m c) grows same.0 same.1 was.1,
      )

-- ---- held ids

swap-front : (xs ys zs : List ℕ) → IsPermutation (xs ++ (ys ++ zs)) (ys ++ (xs ++ zs))
swap-front xs ys zs = rw (← append_assoc xs ys zs, ← append_assoc ys xs zs)
    (IsPermutation-append_left zs (xs ++ ys) (ys ++ xs) (IsPermutation-append_comm xs ys))

-- the ids that are held for one client may stand first
held-first : (os : List (Option Open)) (i : ℕ) (o : Option Open) → i < length os
    → IsPermutation (held (slice_set os i o)) (held_by o ++ held (slice_set os i None))
held-first [] i o below = absurd (omega arith)
held-first (p ∷ os) zero o below = IsPermutation-refl (held_by o ++ held os)
held-first (p ∷ os) (suc i) o below =
    let others = held (slice_set os i None) in
    IsPermutation-trans _ (held_by p ++ (held_by o ++ others)) _
    (IsPermutation-append_right (held_by p) _ _ (held-first os i o (omega arith))) (swap-front (held_by p) (held_by o) others)

-- the held ids are those of one client and the others
pub held-at : (os : List (Option Open)) (i : ℕ) → i < length os
    → IsPermutation (held os) (held_by (get_or os i None) ++ held (slice_set os i None))
held-at os i below = subst (λ ps. IsPermutation (held ps) (held_by (get_or os i None) ++ held (slice_set os i None)))
    (set-get_or os i None) (held-first os i (get_or os i None) below)

-- ---- nothing was said

-- nothing is committed, seen or asked
pub made-so-far : (m : MachineParts) (definitions : List IndexDef) (shards : ℕ)
    → m.state.store ≡ record { definitions = definitions; shards = shards; journal = []; next = first_drawn_id }
    → m.state.applied.counts ≡ replicate shards 0 → m.sessions ≡ first_sessions shards → m.opens ≡ none_open
    → m.requests ≡ [] → m.replies ≡ [] → 1 ≤ shards → shards ≤ most_shards
    → IsLegal m × IsPast shards (course_of m) [] × AreWaiting shards (moment_of m)
made-so-far m definitions shards store counts firsts closed no_request no_reply least most =
    subst (λ x. IsLegal x × IsPast shards (course_of x) [] × AreWaiting shards (moment_of x)) (λ i. record {
      state = record { store = sym store i; applied = record (m.state.applied) { counts = sym counts i } };
      sessions = sym firsts i;
      opens = sym closed i;
      requests = sym no_request i;
      replies = sym no_reply i;
    }) (
      record {
        least = least;
        most = most;
        clients = refl;
        places = refl;
        opens = λ c within. rw (
          get_or-replicate (greatest_client + 1) c (first_session shards) (first_session 0) (omega arith),
          same-there (λ (o : Option Open). o) (greatest_client + 1) c None None refl,
        ) (
          record {
            place_within = omega arith;
            counts_within = up_to-same (replicate shards 0);
            next_within = omega arith;
            transaction_within = tt;
          },
          tt,
        );
        answered = λ window more. refl;
        numbered = tt;
        acknowledges = refl;
        from_first = omega arith;
        draws = IsPermutation-refl [];
        accepts = All-nil (λ id. id < first_drawn_id);
        prints = All-nil (λ next. next ≤ first_drawn_id);
      },
      record {
        follow = refl;
        requests = refl;
        replies = refl;
        takes = tt;
        moves = tt;
        timely = tt;
        witnessed = λ c. (
          rw (same-there (λ (o : Option Open). o) (greatest_client + 1) c None None refl) tt,
          λ group place. rw (same-there (λ (s : Session). s.transaction) (greatest_client + 1) c (first_session shards)
              (first_session 0) refl) (λ touched. cc),
        );
      },
      λ c. rw (same-there (λ (o : Option Open). o) (greatest_client + 1) c None None refl) tt,
    )

-- ---- one reply more

answered-then : (w : World) (ss mid : List Session) (rs : List Request) (ps : List Reply) (r : Request) (p : Reply)
    (before later : Session) → AreAnswered w ss rs ps mid → slice_get mid r.client ≡ Some before → BodyAnswers w before (Ok r) p.body later
    → AreAnswered w ss (rs ++ r ∷ []) (ps ++ p ∷ []) (slice_set mid r.client later)
answered-then w ss mid [] [] r p before later so_far had said =
    (before, later, ap (λ xs. slice_get xs r.client) (sym so_far) ∙ had, said, ap (λ xs. slice_set xs r.client later) so_far)
answered-then w ss mid (x ∷ rs) (q ∷ ps) r p before later so_far had said =
    (so_far.0, so_far.1, so_far.2, so_far.3, answered-then w (slice_set ss x.client so_far.1) mid rs ps r p before later so_far.4 had said)
answered-then w ss mid _ _ r p before later so_far had said = absurd so_far

numbered-then : (n line : ℕ) (rs : List Request) (ps : List Reply) (r : Request) (p : Reply) → AreNumbered n rs ps
    → line ≡ n + length ps → p.line ≡ line → p.client ≡ r.client → p.body ≢ body.NoMemory
    → AreNumbered n (rs ++ r ∷ []) (ps ++ p ∷ [])
numbered-then n line [] [] r p so_far same is client said =
    (is ∙ same ∙ (let e : n + 0 ≡ n = omega arith in e), client, said, tt)
numbered-then n line (x ∷ rs) (q ∷ ps) r p so_far same is client said =
    (so_far.0, so_far.1, so_far.2, numbered-then (n + 1) line rs ps r p so_far.3 (omega (arith, same)) is client said)
numbered-then n line _ _ r p so_far same is client said = absurd so_far

drawn-then : (n : ℕ) (rs : List Request) (ps : List Reply) (r : Request) (p : Reply) → AreNumbered n rs ps
    → drawn_ids (rs ++ r ∷ []) (ps ++ p ∷ []) ≡ drawn_ids rs ps ++ drawn_by_call r.call p.body
drawn-then n [] [] r p so_far = append-nil (drawn_by_call r.call p.body)
drawn-then n (x ∷ rs) (q ∷ ps) r p so_far =
    ap (λ ids. drawn_by_call x.call q.body ++ ids) (drawn-then (n + 1) rs ps r p so_far.3)
    ∙ sym (append_assoc (drawn_by_call x.call q.body) (drawn_ids rs ps) (drawn_by_call r.call p.body))
drawn-then n _ _ r p so_far = absurd so_far

each-then : (f : Reply → List ℕ) (ps : List Reply) (p : Reply) → flat_map f (ps ++ p ∷ []) ≡ flat_map f ps ++ f p
each-then f ps p = flat_map-append f ps (p ∷ []) ∙ ap (λ ns. flat_map f ps ++ ns) (append-nil (f p))

-- ---- a reply

module _ (m : MachineParts) (legal : IsLegal m) (client : ℕ) (bound : client ≤ greatest_client) (r : Request) (ids : List ℕ) (b : Body)
    (e : Effect) (own_client : r.client ≡ client) (holds : IsPermutation (held m.opens) (ids ++ held (slice_set m.opens client None)))
    (memory : b ≢ body.NoMemory) (due : IsDue m.state (session_in m client) client r.call ids b e) where
  abbrev st : StateParts
  st = m.state

  abbrev s : Session
  s = session_in m client

  abbrev then : StateParts
  then = record st { store = store_after e st.store }

  abbrev t : Session
  t = session_after e st.store s

  abbrev reply : Reply
  reply = record { client = client; line = length m.replies + 1; body = b }

  answered_now : (window : Option ℕ) (more : List Commit)
      → AreAnswered (world (record (then.store) { journal = then.store.journal ++ more }) window) (first_sessions then.store.shards)
      (m.requests ++ r ∷ []) (m.replies ++ reply ∷ []) (slice_set m.sessions client t)
  answered_now window more =
      let w = world (record (then.store) { journal = then.store.journal ++ more }) window in
      let so_far : AreAnswered w (first_sessions then.store.shards) m.requests m.replies m.sessions =
      rw (due.definitions, due.shards, due.journal, append_assoc st.store.journal due.added more)
      (legal.answered window (due.added ++ more)) in
      subst (λ n. AreAnswered w (first_sessions then.store.shards) (m.requests ++ r ∷ []) (m.replies ++ reply ∷ [])
      (slice_set m.sessions n t)) own_client
      (answered-then w (first_sessions then.store.shards) m.sessions m.requests m.replies r reply s t so_far
      (subst (λ n. slice_get m.sessions n ≡ Some s) (sym own_client)
      (slice_get-get_or m.sessions client (first_session 0) (omega (arith, legal.clients))))
      (subst (λ n. BodyAnswers w s (Ok (record { client = n; call = r.call })) b t) (sym own_client)
      (due-said st s client r.call ids b e due window more)))

  draws_now : IsPermutation (drawn_ids (m.requests ++ r ∷ []) (m.replies ++ reply ∷ []) ++ held (slice_set m.opens client None))
      (range_with_len first_id (then.store.next - first_id))
  draws_now =
      let others = held (slice_set m.opens client None) in
      rw (
        drawn-then 1 m.requests m.replies r reply legal.numbered,
        due.draws,
        append_assoc (drawn_ids m.requests m.replies) ids others,
        due.next,
      )
      (IsPermutation-trans _ (drawn_ids m.requests m.replies ++ held m.opens) _
      (IsPermutation-append_right (drawn_ids m.requests m.replies) _ _ (IsPermutation-sym _ _ holds)) legal.draws)

  pub said-legal : IsLegal (noted client r b (performed e client (closing client m)))
  said-legal = record {
    least = omega (arith, due.shards, legal.least);
    most = omega (arith, due.shards, legal.most);
    clients = length-set m.sessions client t ∙ legal.clients;
    places = length-set m.opens client None ∙ legal.places;
    opens = opens-then m then client t None legal bound (grows-after e st) (due.definitions, due.shards)
        (session-after e st s due.allowed (legal.opens client bound).0) tt;
    answered = answered_now;
    numbered = numbered-then 1 (length m.replies + 1) m.requests m.replies r reply legal.numbered (omega arith) refl (sym own_client)
        memory;
    acknowledges = rw (each-then acknowledged m.replies reply, legal.acknowledges, due.acknowledges, due.journal)
        (numbers-append 1 (length st.store.journal) (length due.added) _ _ (omega arith) (length-append st.store.journal due.added));
    from_first = omega (arith, legal.from_first, due.next);
    draws = draws_now;
    accepts = rw (each-then accepted m.replies reply, due.next) (All-append (λ id. id < st.store.next) _ _ legal.accepts due.accepts);
    prints = rw (each-then printed_next m.replies reply, due.next)
        (All-append (λ next. next ≤ st.store.next) _ _ legal.prints due.prints);
  }

-- ---- a step, by which the state grows and a request gathers something

module _ (m : MachineParts) (legal : IsLegal m) (new : StateParts) (client : ℕ) (bound : client ≤ greatest_client) (o : Option Open)
    (grows : Grows m.state new) (same : IsSameRun m (record m { state = new })) (journal : new.store.journal ≡ m.state.store.journal)
  where
    place : client < length m.opens
    place = omega (arith, legal.places)

    -- so many ids are drawn, and held for the client
    pub stepped-legal : (count : ℕ) → new.store.next ≡ m.state.store.next + count → IsOpen new client (session_in m client) o
        → held_by o ≡ held_by (open_in m client) ++ range_with_len m.state.store.next count
        → IsLegal (record m { state = new; opens = slice_set m.opens client o })
    stepped-legal count drawn is holds = record {
      least = omega (arith, same.1, legal.least);
      most = omega (arith, same.1, legal.most);
      clients = legal.clients;
      places = length-set m.opens client o ∙ legal.places;
      opens = subst (λ ss. (c : ℕ) → c ≤ greatest_client → IsSession new (get_or ss c (first_session 0))
          × IsOpen new c (get_or ss c (first_session 0)) (get_or (slice_set m.opens client o) c None))
          (set-get_or m.sessions client (first_session 0))
          (opens-then m new client (session_in m client) o legal bound grows same
          (session-grown m.state new (session_in m client) grows (legal.opens client bound).0) is);
      answered = λ window more. rw (same.0, same.1, journal) (legal.answered window more);
      numbered = legal.numbered;
      acknowledges = rw journal legal.acknowledges;
      from_first = omega (arith, legal.from_first, drawn);
      draws = draws_now;
      accepts = λ k e at_k. let low = legal.accepts k e at_k in omega (arith, low, drawn);
      prints = λ k e at_k. let low = legal.prints k e at_k in omega (arith, low, drawn);
    } where
      others : List ℕ
      others = held (slice_set m.opens client None)

      had : List ℕ
      had = held_by (open_in m client)

      more : List ℕ
      more = range_with_len m.state.store.next count

      first : List ℕ
      first = drawn_ids m.requests m.replies

      up_to : range_with_len first_id (m.state.store.next - first_id) ++ more ≡ range_with_len first_id (new.store.next - first_id)
      up_to = numbers-append first_id (m.state.store.next - first_id) count _ _ (omega (arith, legal.from_first))
          (omega (arith, legal.from_first, drawn))

      -- the new ids may stand last
      moved : IsPermutation (held (slice_set m.opens client o)) (held m.opens ++ more)
      moved =
          IsPermutation-trans _ (held_by o ++ others) _ (held-first m.opens client o place)
          (rw (holds, append_assoc had more others)
          (IsPermutation-trans _ (had ++ (others ++ more)) _ (IsPermutation-append_right had _ _ (IsPermutation-append_comm more others))
          (rw (← append_assoc had others more)
          (IsPermutation-append_left more _ _ (IsPermutation-sym _ _ (held-at m.opens client place))))))

      draws_now : IsPermutation (first ++ held (slice_set m.opens client o)) (range_with_len first_id (new.store.next - first_id))
      draws_now =
          rw (← up_to) (IsPermutation-trans _ (first ++ (held m.opens ++ more)) _ (IsPermutation-append_right first _ _ moved)
          (rw (← append_assoc first (held m.opens) more) (IsPermutation-append_left more _ _ legal.draws)))

-- as many requests as replies
numbered-many : (n : ℕ) (rs : List Request) (ps : List Reply) → AreNumbered n rs ps → length rs ≡ length ps
numbered-many n [] [] are = refl
numbered-many n (r ∷ rs) (p ∷ ps) are = let rest = numbered-many (n + 1) rs ps are.3 in omega (arith, rest)
numbered-many n _ _ are = absurd are

pub as-many : (m : MachineParts) → IsLegal m → length m.requests ≡ length m.replies
as-many m legal = numbered-many 1 m.requests m.replies legal.numbered

-- ---- a run

pub same-run : (m n o : MachineParts) → IsSameRun m n → IsSameRun n o → IsSameRun m o
same-run m n o first second = (second.0 ∙ first.0, second.1 ∙ first.1)

pub legal-round : (m : MachineParts) (t : Transcript) (definitions : List IndexDef) (shards : ℕ) → IsLegal m
    → m.opens ≡ none_open → m.state.store.definitions ≡ definitions → m.state.store.shards ≡ shards
    → t.requests ≡ m.requests → t.replies ≡ m.replies → t.journal ≡ m.state.store.journal → IsLegalRound definitions shards t
legal-round m t definitions shards legal closed same_definitions same_shards requests replies journal =
    subst (IsLegalRound definitions shards)
    (λ i. record { requests = sym requests i; replies = sym replies i; journal = sym journal i })
    (record {
      after = m.sessions;
      answered = rw (← same_definitions, ← same_shards) (rw append-nil at (legal.answered None []));
      numbered = legal.numbered;
      acknowledges = legal.acknowledges;
      bound = m.state.store.next;
      from_first = legal.from_first;
      each_once = rw (closed, append-nil (drawn_ids m.requests m.replies)) at legal.draws;
      accepted_below = legal.accepts;
      printed_within = legal.prints;
    })
