-- From what was done with each client to what is told of all.
use Rattle.std.proofs.Common.{◌≡◌, ℕ, zero, suc, ◌+◌, ◌*◌, ◌<◌, ◌≤◌, List, [], ◌∷◌, length, map, refl, ap, sym, ◌∙◌, subst, arith, get_or}
use Rattle.std.proofs.Common.{Option, ◌⊎◌, inl, inr, set, get_or-set_same, get_or-set_other, below_more}
use Rattle.std.specs.Prelude.{All}
use Rattle.std.specs.List.{range_with_len}
use Rattle.std.proofs.lemmas.List.Elements.{All-nil, All-cons, All-head, All-tail}
use Rattle.ds_indexdef.specs.declared.IndexDef.{IndexDef}
use Rattle.ds_rounds.specs.Rounds.{NumberedLine}
use Rattle.ds_model.specs.Sessions.{Session, raised_to}
use Rattle.ds_protocol.specs.Watermarks.{HaveCounts}
use Rattle.ds_store.specs.Passes.{HasRead}
use Rattle.ds_asked.specs.declared.lines.Asked.{Asked}
use Rattle.ds_asked.specs.AskedLines.{AreAsked, AreAskedFrom, MayBeAnswered}
use Rattle.ds_clients.specs.Clients.{AreAlike, EachOf, HasAnsweredOwn, IsReady, clients_of}
use Rattle.ds_client.specs.Room.{most_no_memory}
use Rattle.ds_clients.specs.Runs.{AreWritten, HaveAnswered, HaveMet, HaveTaken, seen_of}
use Rattle.ds_client.specs.Meeting.{HasTaken}
use Rattle.ds_asked.specs.AskedLines.{lines_of_client}
use Rattle.ds_client.specs.Sessions.{SessionParts}

-- ---- a loop over a list, in place

below-or : (k i : ℕ) → (k < i) ⊎ (i ≤ k)
below-or k zero = inr (omega arith)
below-or zero (suc i) = inl (omega arith)
below-or (suc k) (suc i) = elim (below-or k i) [ inl h ↦ inl (omega (arith, h)) | inr h ↦ inr (omega (arith, h)) ]

module _ {A : Type 0} (Holds : A → A → Type 0) where
  -- it was done with the first ones, and the others are as they were
  pub record DoneBelow (i : ℕ) (before now : List A) : Type 0 where
    pub done : (k : ℕ) (d : A) → k < i → Holds (get_or before k d) (get_or now k d)
    pub kept : (k : ℕ) (d : A) → i ≤ k → get_or now k d ≡ get_or before k d

  pub none_done : (xs : List A) → DoneBelow 0 xs xs
  none_done xs = record { done = λ k d below. absurd (omega (arith, below)); kept = λ k d from. refl }

  pub one_done : (before now : List A) (i : ℕ) (e y : A) → i < length now → Holds (get_or now i e) y → DoneBelow i before now
      → DoneBelow (i + 1) before (set now i y)
  one_done before now i e y below holds so_far = record {
    done = λ k d less. below_more (λ j. Holds (get_or before j d) (get_or (set now i y) j d)) i
        (λ j under.
        let other : j ≡ i → ⊥ = λ same. omega (arith, under, same) in
        subst (Holds (get_or before j d)) (sym (get_or-set_other now i j y d other)) (so_far.done j d under))
        (subst (λ v. Holds v (get_or (set now i y) i d)) (at_place d)
        (subst (Holds (get_or now i e)) (sym (get_or-set_same now i y d below)) holds))
        k less;
    kept = λ k d from.
        let other : k ≡ i → ⊥ = λ same. omega (arith, from, same) in
        get_or-set_other now i k y d other ∙ so_far.kept k d (omega (arith, from));
  } where
    same_default : (zs : List A) (j : ℕ) (d f : A) → j < length zs → get_or zs j d ≡ get_or zs j f
    same_default [] j d f low = absurd (omega (arith, low))
    same_default (z ∷ zs) zero d f low = refl
    same_default (z ∷ zs) (suc j) d f low = same_default zs j d f (omega (arith, low))

    at_place : (d : A) → get_or now i e ≡ get_or before i d
    at_place d = same_default now i e d below ∙ so_far.kept i d (omega arith)

  each_of : (xs ys : List A) → length ys ≡ length xs → ((k : ℕ) (d : A) → k < length xs → Holds (get_or xs k d) (get_or ys k d))
      → EachOf Holds xs ys
  each_of [] [] same holds = tt
  each_of [] (y ∷ ys) same holds = absurd (omega (arith, same))
  each_of (x ∷ xs) [] same holds = absurd (omega (arith, same))
  each_of (x ∷ xs) (y ∷ ys) same holds =
      (holds 0 x (omega arith), each_of xs ys (omega (arith, same)) (λ k d below. holds (suc k) d (omega (arith, below))))

  pub all_done : (before now : List A) (i : ℕ) → length now ≡ length before → length before ≤ i → DoneBelow i before now
      → EachOf Holds before now
  all_done before now i same whole so_far = each_of before now same (λ k d below. so_far.done k d (omega (arith, below, whole)))

  -- where it holds too of what was left as it was
  pub some_done : ((x : A) → Holds x x) → (before now : List A) (i : ℕ) → length now ≡ length before → DoneBelow i before now
      → EachOf Holds before now
  some_done same before now i long so_far = each_of before now long (λ k d below. by k d (below-or k i)) where
    by : (k : ℕ) (d : A) → ((k < i) ⊎ (i ≤ k)) → Holds (get_or before k d) (get_or now k d)
    by k d (inl under) = so_far.done k d under
    by k d (inr from) = subst (Holds (get_or before k d)) (sym (so_far.kept k d from)) (same (get_or before k d))

module _ {A : Type 0} where
  pub done_weaker : (P Q : A → A → Type 0) → ((x y : A) → P x y → Q x y) → (i : ℕ) (before now : List A) → DoneBelow P i before now
      → DoneBelow Q i before now
  done_weaker P Q f i before now h = record {
    done = λ k d below. f (get_or before k d) (get_or now k d) (h.done k d below);
    kept = h.kept;
  }

  pub each_length : (Holds : A → A → Type 0) (xs ys : List A) → EachOf Holds xs ys → length ys ≡ length xs
  each_length Holds [] [] h = refl
  each_length Holds [] (y ∷ ys) h = absurd h
  each_length Holds (x ∷ xs) [] h = absurd h
  each_length Holds (x ∷ xs) (y ∷ ys) h = ap suc (each_length Holds xs ys h.1)

  pub each_weaker : (P Q : A → A → Type 0) → ((x y : A) → P x y → Q x y) → (xs ys : List A) → EachOf P xs ys → EachOf Q xs ys
  each_weaker P Q f [] [] h = tt
  each_weaker P Q f [] (y ∷ ys) h = absurd h
  each_weaker P Q f (x ∷ xs) [] h = absurd h
  each_weaker P Q f (x ∷ xs) (y ∷ ys) h = (f x y h.0, each_weaker P Q f xs ys h.1)

  pub each_through : (P Q R : A → A → Type 0) → ((x y z : A) → P x y → Q y z → R x z) → (xs ys zs : List A) → EachOf P xs ys
      → EachOf Q ys zs → EachOf R xs zs
  each_through P Q R f [] [] [] h k = tt
  each_through P Q R f [] [] (z ∷ zs) h k = absurd k
  each_through P Q R f [] (y ∷ ys) zs h k = absurd h
  each_through P Q R f (x ∷ xs) [] zs h k = absurd h
  each_through P Q R f (x ∷ xs) (y ∷ ys) [] h k = absurd k
  each_through P Q R f (x ∷ xs) (y ∷ ys) (z ∷ zs) h k = (f x y z h.0 k.0, each_through P Q R f xs ys zs h.1 k.1)

  pub each_map : {B : Type 0} (f : A → B) (xs ys : List A) → EachOf (λ x y. f y ≡ f x) xs ys → map f ys ≡ map f xs
  each_map f [] [] h = refl
  each_map f [] (y ∷ ys) h = absurd h
  each_map f (x ∷ xs) [] h = absurd h
  each_map f (x ∷ xs) (y ∷ ys) h = λ i. h.0 i ∷ each_map f xs ys h.1 i

-- ---- what stays the same

-- a client has seen the same, and so has its pass
pub record IsAlike (s t : SessionParts) : Type 0 where
  pub client : t.client ≡ s.client
  pub seen : t.seen ≡ s.seen
  pub pass : t.pass ≡ s.pass

module _ {A : Type 0} (session : A → SessionParts) where
  pub alike : (xs ys : List A) → EachOf (λ x y. IsAlike (session x) (session y)) xs ys → AreAlike (map session xs) (map session ys)
  alike [] [] h = record { clients = refl; seen = refl; passes = refl }
  alike [] (y ∷ ys) h = absurd h
  alike (x ∷ xs) [] h = absurd h
  alike (x ∷ xs) (y ∷ ys) h = let rest = alike xs ys h.1 in record {
    clients = λ i. h.0.client i ∷ rest.clients i;
    seen = λ i. h.0.seen i ∷ rest.seen i;
    passes = λ i. h.0.pass i ∷ rest.passes i;
  }

  pub written_each : (xs : List A) → AreWritten (map session xs) → All (λ x. (session x).text ≡ []) xs
  written_each [] h = All-nil (λ x. (session x).text ≡ [])
  written_each (x ∷ xs) h = All-cons (λ x. (session x).text ≡ []) x xs h.0 (written_each xs h.1)

  pub are_written : (xs ys : List A) → EachOf (λ x y. (session y).text ≡ []) xs ys → AreWritten (map session ys)
  are_written [] [] h = tt
  are_written [] (y ∷ ys) h = absurd h
  are_written (x ∷ xs) [] h = absurd h
  are_written (x ∷ xs) (y ∷ ys) h = (h.0, are_written xs ys h.1)

  pub written_kept : (xs ys : List A) → EachOf (λ x y. (session y).text ≡ (session x).text) xs ys → AreWritten (map session xs)
      → AreWritten (map session ys)
  written_kept [] [] h w = tt
  written_kept [] (y ∷ ys) h w = absurd h
  written_kept (x ∷ xs) [] h w = absurd h
  written_kept (x ∷ xs) (y ∷ ys) h w = (h.0 ∙ w.0, written_kept xs ys h.1 w.1)

  pub counts_kept : (n : ℕ) (xs ys : List A) → EachOf (λ x y. length (session y).seen.counts ≡ length (session x).seen.counts) xs ys
      → HaveCounts n (seen_of (map session xs)) → HaveCounts n (seen_of (map session ys))
  counts_kept n [] [] h have = have
  counts_kept n [] (y ∷ ys) h have = absurd h
  counts_kept n (x ∷ xs) [] h have = absurd h
  counts_kept n (x ∷ xs) (y ∷ ys) h have =
      All-cons (λ (s : Session). length s.counts ≡ n) (session y).seen (seen_of (map session ys))
      (h.0 ∙ All-head (λ (s : Session). length s.counts ≡ n) (session x).seen (seen_of (map session xs)) have)
      (counts_kept n xs ys h.1 (All-tail (λ (s : Session). length s.counts ≡ n) (session x).seen (seen_of (map session xs)) have))

  pub cleared_alike : (xs ys : List A) → EachOf (λ x y. session y ≡ record (session x) { text = [] }) xs ys
      → EachOf (λ x y. IsAlike (session x) (session y)) xs ys
  cleared_alike = each_weaker (λ x y. session y ≡ record (session x) { text = [] }) (λ x y. IsAlike (session x) (session y))
      (λ x y h. record {
        client = ap (λ (s : SessionParts). s.client) h;
        seen = ap (λ (s : SessionParts). s.seen) h;
        pass = ap (λ (s : SessionParts). s.pass) h;
      })

  pub cleared_text : (xs ys : List A) → EachOf (λ x y. session y ≡ record (session x) { text = [] }) xs ys
      → EachOf (λ x y. (session y).text ≡ []) xs ys
  cleared_text = each_weaker (λ x y. session y ≡ record (session x) { text = [] }) (λ x y. (session y).text ≡ [])
      (λ x y h. ap (λ (s : SessionParts). s.text) h)

  pub taken_alike : (xs ys : List A) → EachOf (λ x y. session y ≡ record (session x) { text = []; room = 0 }) xs ys
      → EachOf (λ x y. IsAlike (session x) (session y)) xs ys
  taken_alike = each_weaker (λ x y. session y ≡ record (session x) { text = []; room = 0 }) (λ x y. IsAlike (session x) (session y))
      (λ x y h. record {
        client = ap (λ (s : SessionParts). s.client) h;
        seen = ap (λ (s : SessionParts). s.seen) h;
        pass = ap (λ (s : SessionParts). s.pass) h;
      })

  pub taken_text : (xs ys : List A) → EachOf (λ x y. session y ≡ record (session x) { text = []; room = 0 }) xs ys
      → EachOf (λ x y. (session y).text ≡ []) xs ys
  taken_text = each_weaker (λ x y. session y ≡ record (session x) { text = []; room = 0 }) (λ x y. (session y).text ≡ [])
      (λ x y h. ap (λ (s : SessionParts). s.text) h)

  -- ---- meeting

  pub have_taken : (greatest : Session) (xs ys : List A) → EachOf (λ x y. HasTaken greatest (session x) (session y)) xs ys
      → HaveTaken greatest (map session xs) (map session ys)
  have_taken greatest [] [] h = tt
  have_taken greatest [] (y ∷ ys) h = absurd h
  have_taken greatest (x ∷ xs) [] h = absurd h
  have_taken greatest (x ∷ xs) (y ∷ ys) h = (h.0, have_taken greatest xs ys h.1)

  pub met_alike : (all : List Session) (xs ys : List A) (after : List SessionParts) → EachOf (λ x y. IsAlike (session x) (session y)) xs ys
      → HaveMet all (map session ys) after → HaveMet all (map session xs) after
  met_alike all [] [] after h m = m
  met_alike all [] (y ∷ ys) after h m = absurd h
  met_alike all (x ∷ xs) [] after h m = absurd h
  met_alike all (x ∷ xs) (y ∷ ys) [] h m = absurd m
  met_alike all (x ∷ xs) (y ∷ ys) (t ∷ after) h m = (
    record {
      client = m.0.client ∙ h.0.client;
      seen = m.0.seen ∙ ap (raised_to all) h.0.seen;
      read = subst (λ p. HasRead p t.pass) h.0.pass m.0.read;
      text = m.0.text;
    },
    met_alike all xs ys after h.1 m.1,
  )

  -- ---- answering

  module _ (own : A → List Asked) (shards : ℕ) (round : List NumberedLine) where
    may_be : (client : ℕ) (lines : List NumberedLine) (asked : List Asked) → AreAsked shards client lines asked
        → All (MayBeAnswered shards) asked
    may_be client [] [] h = All-nil (MayBeAnswered shards)
    may_be client [] (a ∷ asked) h = absurd h
    may_be client (l ∷ lines) [] h = absurd h
    may_be client (l ∷ lines) (a ∷ asked) (asks, of_client, rest) =
        All-cons (MayBeAnswered shards) a asked asks.answerable (may_be client lines asked rest)

    of_one : (client number : ℕ) (lines : List NumberedLine) (asked : List Asked) → number ≡ client → AreAsked shards client lines asked
        → All (λ (a : Asked). a.client ≡ number) asked
    of_one client number [] [] is h = All-nil (λ (a : Asked). a.client ≡ number)
    of_one client number [] (a ∷ asked) is h = absurd h
    of_one client number (l ∷ lines) [] is h = absurd h
    of_one client number (l ∷ lines) (a ∷ asked) is (asks, of_client, rest) =
        All-cons (λ (a : Asked). a.client ≡ number) a asked (of_client ∙ sym is) (of_one client number lines asked is rest)

    pub all_ready : (client n : ℕ) (xs : List A) → clients_of (map session xs) ≡ range_with_len client n
        → AreAskedFrom shards client round (map own xs) → All (λ x. length (own x) * most_no_memory ≤ (session x).room) xs
        → All (λ x. IsReady shards (session x) (own x)) xs
    all_ready client n [] numbers asked room = All-nil (λ x. IsReady shards (session x) (own x))
    all_ready client zero (x ∷ xs) numbers asked room = cc
    all_ready client (suc n) (x ∷ xs) numbers (asked, others) room =
        let number : (session x).client ≡ client = cc in
        let fewer : clients_of (map session xs) ≡ range_with_len (client + 1) n = cc in
        All-cons (λ x. IsReady shards (session x) (own x)) x xs
        (record {
          answerable = may_be client (lines_of_client shards client round) (own x) asked;
          own_lines = of_one client (session x).client (lines_of_client shards client round) (own x) number asked;
          room = All-head (λ x. length (own x) * most_no_memory ≤ (session x).room) x xs room;
        })
        (all_ready (client + 1) n xs fewer others (All-tail (λ x. length (own x) * most_no_memory ≤ (session x).room) x xs room))

    pub have_answered : (definitions : List IndexDef) (window : Option ℕ) (client n : ℕ) (xs ys : List A)
        → clients_of (map session xs) ≡ range_with_len client n → AreAskedFrom shards client round (map own xs)
        → EachOf (λ x y. HasAnsweredOwn definitions shards window (session x) (own x) (session y)) xs ys
        → HaveAnswered definitions shards window round client (map session xs) (map session ys)
    have_answered definitions window client n [] [] numbers asked h = tt
    have_answered definitions window client n [] (y ∷ ys) numbers asked h = absurd h
    have_answered definitions window client n (x ∷ xs) [] numbers asked h = absurd h
    have_answered definitions window client zero (x ∷ xs) (y ∷ ys) numbers asked h = cc
    have_answered definitions window client (suc n) (x ∷ xs) (y ∷ ys) numbers (asked, others) h =
        let number : (session x).client ≡ client = cc in
        let fewer : clients_of (map session xs) ≡ range_with_len (client + 1) n = cc in (
          h.0.answered (lines_of_client shards client round)
              (subst (λ c. AreAsked shards c (lines_of_client shards client round) (own x)) (sym number) asked),
          have_answered definitions window (client + 1) n xs ys fewer others h.1,
        )
