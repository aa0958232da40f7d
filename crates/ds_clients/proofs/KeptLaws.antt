-- Sessions that begin behind what is kept, and what the passes of all show.
use Rattle.std.proofs.Common.{◌≡◌, ℕ, zero, suc, ◌+◌, ◌<◌, ◌≤◌, List, [], ◌∷◌, ◌++◌, map, replicate, refl, ap, sym, ◌∙◌, subst, arith, Some, max}
use Rattle.std.specs.Prelude.{All, None, fold, slice_get}
use Rattle.std.specs.List.{range_with_len}
use Rattle.std.proofs.lemmas.List.Elements.{All-nil, All-append, All-cons, All-weaker}
use Rattle.ds_base.specs.Limits.{first_drawn_id, greatest_client}
use Rattle.ds_model.specs.Sessions.{Session, first_session, greater_counts, saw_next, saw_place}
use Rattle.ds_protocol.specs.Watermarks.{raised_by}
use Rattle.ds_client.specs.Meeting.{HasTaken}
use Rattle.ds_client.specs.Sessions.{SessionParts}
use Rattle.ds_store.specs.Passes.{PassParts, nothing_seen}
use Rattle.ds_clients.specs.Clients.{AreNew, EachOf}
use Rattle.ds_clients.specs.Runs.{AreWritten, IsIdle, passes_of, seen_of}
use Rattle.ds_clients.specs.Showing.{next_shown, place_shown}
use Rattle.ds_clients.proofs.ClientLaws.{each_map, each_weaker}
use Rattle.ds_clients.proofs.ClosingLaws.{idle_first, idle_later}

-- ---- beginning behind a place and a counter

-- what was shown to a new client
abbrev pub behind : ℕ → ℕ → ℕ → Session
behind shards place next = record { place = place; counts = replicate shards 0; next_id = next; transaction = None }

no-greater : (n : ℕ) → greater_counts (replicate n 0) (replicate n 0) ≡ replicate n 0
no-greater zero = refl
no-greater (suc n) = ap (λ ns. 0 ∷ ns) (no-greater n)

pub began : (shards place next : ℕ) (mark : Session) → first_drawn_id ≤ next
    → mark ≡ saw_next next (saw_place place (first_session shards))
    → raised_by mark (first_session shards) ≡ behind shards place next
began shards place next mark least is =
    ap (λ m. raised_by m (first_session shards)) is
    ∙ (λ i. record { place = places i; counts = no-greater shards i; next_id = counters i; transaction = None }) where
      places : max 0 (max 0 place) ≡ place
      places = omega arith

      counters : max first_drawn_id (max first_drawn_id next) ≡ next
      counters = omega (arith, least)

module _ {A : Type 0} (session : A → SessionParts) where
  pub all_began : (n : ℕ) (first now greatest : Session) (xs ys : List A)
      → EachOf (λ x y. HasTaken greatest (session x) (session y)) xs ys → raised_by greatest first ≡ now
      → seen_of (map session xs) ≡ replicate n first → seen_of (map session ys) ≡ replicate n now
  all_began n first now greatest [] [] h is new = none n new where
    none : (m : ℕ) → [] ≡ replicate m first → [] ≡ replicate m now
    none zero new = refl
    none (suc m) new = cc
  all_began n first now greatest [] (y ∷ ys) h is new = absurd h
  all_began n first now greatest (x ∷ xs) [] h is new = absurd h
  all_began zero first now greatest (x ∷ xs) (y ∷ ys) h is new = cc
  all_began (suc n) first now greatest (x ∷ xs) (y ∷ ys) h is new =
      let head : (session x).seen ≡ first = cc in
      let tail : seen_of (map session xs) ≡ replicate n first = cc in
      λ i. (h.0.seen ∙ ap (raised_by greatest) head ∙ is) i ∷ all_began n first now greatest xs ys h.1 is tail i

  pub all_idle : (n shards : ℕ) (greatest : Session) (xs ys : List A)
      → EachOf (λ x y. HasTaken greatest (session x) (session y)) xs ys
      → passes_of (map session xs) ≡ replicate n (nothing_seen shards) → All (λ s. IsIdle s.pass) (map session ys)
  all_idle n shards greatest [] [] h new = All-nil (λ s. IsIdle s.pass)
  all_idle n shards greatest [] (y ∷ ys) h new = absurd h
  all_idle n shards greatest (x ∷ xs) [] h new = absurd h
  all_idle zero shards greatest (x ∷ xs) (y ∷ ys) h new = cc
  all_idle (suc n) shards greatest (x ∷ xs) (y ∷ ys) h new =
      let head : (session x).pass ≡ nothing_seen shards = cc in
      let tail : passes_of (map session xs) ≡ replicate n (nothing_seen shards) = cc in
      All-cons (λ s. IsIdle s.pass) (session y) (map session ys)
      (idle_later (session x).pass (session y).pass h.0.read (subst IsIdle (sym head) (idle_first shards)))
      (all_idle n shards greatest xs ys h.1 tail)

  pub all_taken_written : (greatest : Session) (xs ys : List A) → EachOf (λ x y. HasTaken greatest (session x) (session y)) xs ys
      → AreWritten (map session ys)
  all_taken_written greatest [] [] h = tt
  all_taken_written greatest [] (y ∷ ys) h = absurd h
  all_taken_written greatest (x ∷ xs) [] h = absurd h
  all_taken_written greatest (x ∷ xs) (y ∷ ys) h = (h.0.text, all_taken_written greatest xs ys h.1)

-- the sessions behind a place and a counter
pub record AreBehind (shards place next : ℕ) (sessions : List SessionParts) : Type 0 where
  pub seen : seen_of sessions ≡ replicate (greatest_client + 1) (behind shards place next)
  pub idle : All (λ s. IsIdle s.pass) sessions
  pub written : AreWritten sessions

pub all_behind : {A : Type 0} (session : A → SessionParts) (items given left final : List A) (sessions : List SessionParts)
    (shards place next : ℕ) (mark : Session) → given ≡ items → final ≡ left → map session items ≡ sessions → AreNew shards sessions
    → first_drawn_id ≤ next → mark ≡ saw_next next (saw_place place (first_session shards))
    → EachOf (λ x y. HasTaken mark (session x) (session y)) given left → AreBehind shards place next (map session final)
all_behind session items given left final sessions shards place next mark same is view new least marked each =
    subst (λ xs. AreBehind shards place next (map session xs)) (sym is) (record {
      seen = all_began session (greatest_client + 1) (first_session shards) (behind shards place next) mark given left each
          (began shards place next mark least marked) (ap seen_of shown ∙ new.seen);
      idle = all_idle session (greatest_client + 1) shards mark given left each (ap passes_of shown ∙ new.passes);
      written = all_taken_written session mark given left each;
    }) where
      shown : map session given ≡ sessions
      shown = ap (map session) same ∙ view

pub numbered_behind : {A : Type 0} (session : A → SessionParts) (items given left final : List A) (mark : Session) → given ≡ items
    → final ≡ left → EachOf (λ x y. HasTaken mark (session x) (session y)) given left
    → map (λ x. (session x).client) final ≡ map (λ x. (session x).client) items
numbered_behind session items given left final mark same is each =
    ap (map (λ x. (session x).client)) is
    ∙ each_map (λ x. (session x).client) given left
    (each_weaker (λ x y. HasTaken mark (session x) (session y)) (λ x y. (session y).client ≡ (session x).client) (λ x y h. h.client) given
    left each)
    ∙ ap (map (λ x. (session x).client)) same

-- ---- the first of the clients

pub first_there : {A : Type 0} (number : A → ℕ) (session : A → SessionParts) (n : ℕ) (xs : List A) → map number xs ≡ range_with_len 0 (suc n)
    → (s : SessionParts) × (slice_get (map session xs) 0 ≡ Some s)
first_there number session n [] is = cc
first_there number session n (x ∷ xs) is = (session x, refl)

-- ---- what the passes show

fold-push : {A : Type 0} (f : ℕ → A → ℕ) (n : ℕ) (xs : List A) (x : A) → fold f n (xs ++ x ∷ []) ≡ f (fold f n xs) x
fold-push f n [] x = refl
fold-push f n (y ∷ xs) x = fold-push f (f n y) xs x

map-push : {A B : Type 0} (f : A → B) (xs : List A) (x : A) → map f (xs ++ x ∷ []) ≡ map f xs ++ f x ∷ []
map-push f [] x = refl
map-push f (y ∷ xs) x = ap (λ ys. f y ∷ ys) (map-push f xs x)

-- the greatest place and id counter that these passes show, above what they committed and drew
pub record AreShown (sessions : List SessionParts) (place next : ℕ) : Type 0 where
  pub place_is : place ≡ place_shown sessions
  pub next_is : next ≡ next_shown sessions
  pub commits : All (λ s. All (λ n. n ≤ place) s.pass.commits) sessions
  pub draws : All (λ s. All (λ id. id < next) s.pass.draws) sessions

pub none_shown : AreShown [] 0 0
none_shown = record {
  place_is = refl;
  next_is = refl;
  commits = All-nil (λ s. All (λ n. n ≤ 0) s.pass.commits);
  draws = All-nil (λ s. All (λ id. id < 0) s.pass.draws);
}

pub one_shown : {A : Type 0} (session : A → SessionParts) (xs : List A) (x : A) (place next : ℕ) → AreShown (map session xs) place next
    → All (λ n. n ≤ (session x).pass.place) (session x).pass.commits → All (λ id. id < (session x).pass.next) (session x).pass.draws
    → AreShown (map session (xs ++ x ∷ [])) (max place (session x).pass.place) (max next (session x).pass.next)
one_shown session xs x place next so_far own drawn =
    subst (λ (ss : List SessionParts). AreShown ss (max place s.pass.place) (max next s.pass.next)) (sym (map-push session xs x)) (record {
      place_is = ap (λ n. max n s.pass.place) so_far.place_is
          ∙ sym (fold-push (λ greatest (v : SessionParts). max greatest v.pass.place) 0 (map session xs) s);
      next_is = ap (λ n. max n s.pass.next) so_far.next_is
          ∙ sym (fold-push (λ greatest (v : SessionParts). max greatest v.pass.next) 0 (map session xs) s);
      commits = All-append (λ v. All (λ n. n ≤ max place s.pass.place) v.pass.commits) (map session xs) (s ∷ [])
          (All-weaker (λ v. All (λ n. n ≤ place) v.pass.commits) (λ v. All (λ n. n ≤ max place s.pass.place) v.pass.commits)
          (λ v below. All-weaker (λ n. n ≤ place) (λ n. n ≤ max place s.pass.place) (λ n le. omega (arith, le)) v.pass.commits below)
          (map session xs) so_far.commits)
          (All-cons (λ v. All (λ n. n ≤ max place s.pass.place) v.pass.commits) s []
          (All-weaker (λ n. n ≤ s.pass.place) (λ n. n ≤ max place s.pass.place) (λ n le. omega (arith, le)) s.pass.commits own)
          (All-nil (λ v. All (λ n. n ≤ max place s.pass.place) v.pass.commits)));
      draws = All-append (λ v. All (λ id. id < max next s.pass.next) v.pass.draws) (map session xs) (s ∷ [])
          (All-weaker (λ v. All (λ id. id < next) v.pass.draws) (λ v. All (λ id. id < max next s.pass.next) v.pass.draws)
          (λ v below. All-weaker (λ id. id < next) (λ id. id < max next s.pass.next) (λ id lt. omega (arith, lt)) v.pass.draws below)
          (map session xs) so_far.draws)
          (All-cons (λ v. All (λ id. id < max next s.pass.next) v.pass.draws) s []
          (All-weaker (λ id. id < s.pass.next) (λ id. id < max next s.pass.next) (λ id lt. omega (arith, lt)) s.pass.draws drawn)
          (All-nil (λ v. All (λ id. id < max next s.pass.next) v.pass.draws)));
    }) where
      s : SessionParts
      s = session x
