-- What has happened so far, step by step.
use Rattle.ds_core.proofs.Words.{◌≡◌, ℕ, List, [], ◌∷◌, ◌++◌, map, refl, ap, sym, ◌∙◌, subst, Option, None, append_assoc, flat_map}
use Rattle.ds_core.proofs.Words.{flat_map-append, append-nil, All-append, All-nil, Request, Step, Transcript, Moment, Happening, Happens}
use Rattle.ds_core.proofs.Words.{Said, moment_of, none_open, event_of, MachineParts, IsTimely, Moves, IsTaken, WaitsFor, open_of}
use Rattle.ds_core.proofs.Words.{session_of, shown_at, Course, GoesOn, HappensAt, IsPast, TakesAt, course_of}
use Rattle.std.proofs.lemmas.List.{map-append}
use Rattle.std.proofs.lemmas.List.Elements.{All-cons}
use Rattle.ds_core.specs.declared.event.Event.{Event}
use Rattle.ds_core.specs.Courses.{HasHappened}
use Rattle.ds_core.specs.Happenings.{Follow, first_moment, said_requests, said_replies}
use Rattle.ds_core.specs.Timelines.{AreMoves, AreTimely}
use Rattle.ds_core.specs.Takings.{AreTaken, IsMissing}
use Rattle.ds_core.proofs.Changing.{still-opens}
use Rattle.ds_core.proofs.Taken.{happening, is-moved, is-said, is-taken, is-timely, is-witnessed, said-once}

-- ---- one more happening

moves-then : (shards : ℕ) (hs : List Happening) (h : Happening) → AreMoves shards hs → Moves shards h.step h.before h.after
    → AreMoves shards (hs ++ h ∷ [])
moves-then shards [] h are is = (is, tt)
moves-then shards (x ∷ hs) h are is = (are.0, moves-then shards hs h are.1 is)

taken-then : (shards : ℕ) (hs : List Happening) (h : Happening) → AreTaken shards hs → IsTaken shards h → AreTaken shards (hs ++ h ∷ [])
taken-then shards [] h are is = (is, tt)
taken-then shards (x ∷ hs) h are is = (are.0, taken-then shards hs h are.1 is)

timely-then : (past hs : List Happening) (h : Happening) → AreTimely past hs → IsTimely (past ++ (hs ++ h ∷ [])) h.said
    → AreTimely past (hs ++ h ∷ [])
timely-then past [] h are is = (is, tt)
timely-then past (x ∷ hs) h are is =
    (are.0, timely-then (past ++ x ∷ []) hs h are.1 (subst (λ xs. IsTimely xs h.said) (sym (append_assoc past (x ∷ []) (hs ++ h ∷ []))) is))

follow-then : (a b : Moment) (hs : List Happening) (h : Happening) → Follow a hs b → h.before ≡ b → Happens h
    → Follow a (hs ++ h ∷ []) h.after
follow-then a b [] h follow is happens = (is ∙ follow, happens, refl)
follow-then a b (x ∷ hs) h follow is happens = (follow.0, follow.1, follow-then x.after b hs h follow.2 is happens)

each-said : {X : Type 0} (f : Happening → List X) (hs : List Happening) (h : Happening)
    → flat_map f (hs ++ h ∷ []) ≡ flat_map f hs ++ f h
each-said f hs h = flat_map-append f hs (h ∷ []) ∙ ap (λ xs. flat_map f hs ++ xs) (append-nil (f h))

module _ {shards : ℕ} {step : Step} {client : ℕ} {begins : Option Request} {old new : Course}
    (hs : List Happening) (is : HappensAt shards step client begins old new) where
  abbrev h : Happening
  h = happening is

  said-more : {X : Type 0} (f : Option Said → List X) (a b c : List X) → f None ≡ [] → b ≡ a ++ f is.opens.said
      → c ≡ b ++ f is.takes.1.said → a ≡ flat_map (λ x. f x.said) hs → c ≡ flat_map (λ x. f x.said) (hs ++ h ∷ [])
  said-more f a b c none first second so_far =
      second ∙ ap (λ xs. xs ++ f is.takes.1.said) (first ∙ ap (λ xs. xs ++ f is.opens.said) so_far)
      ∙ append_assoc (flat_map (λ x. f x.said) hs) (f is.opens.said) (f is.takes.1.said)
      ∙ ap (λ xs. flat_map (λ x. f x.said) hs ++ xs) (said-once is f none)
      ∙ sym (each-said (λ x. f x.said) hs h)

  pub past-then : IsPast shards old hs → IsPast shards new (hs ++ h ∷ [])
  past-then past = record {
    follow = follow-then (first_moment shards) old.moment hs h past.follow refl (is-said is);
    requests = said-more said_requests old.requests is.between.requests new.requests refl is.opens.requests is.takes.1.requests
        past.requests;
    replies = said-more said_replies old.replies is.between.replies new.replies refl is.opens.replies is.takes.1.replies past.replies;
    takes = taken-then shards hs h past.takes (is-taken is);
    moves = moves-then shards hs h past.moves (is-moved is);
    timely = timely-then [] hs h past.timely (is-timely is hs past.witnessed);
    witnessed = is-witnessed is hs past.witnessed;
  }

-- ---- steps that open no request

-- a step alone
pub alone : (shards : ℕ) (step : Step) (client : ℕ) (old new : Course) → TakesAt shards step client old new
    → HappensAt shards step client None old new
alone shards step client old new takes = record {
  between = old;
  opens = still-opens shards client None old (λ none. refl);
  takes = takes;
}

pub goes-none : (shards : ℕ) (c : Course) → GoesOn shards c c
goes-none shards c =
    record { more = []; past = λ hs past. (subst (IsPast shards c) (sym (append-nil hs)) past, All-nil (IsMissing shards)) }

-- a step for which the client's open request waits
pub goes-step : (shards : ℕ) (step : Step) (client : ℕ) (old new : Course) → TakesAt shards step client old new
    → WaitsFor (shown_at shards old.moment) (session_of old.moment client) (open_of old.moment client) step → GoesOn shards old new
goes-step shards step client old new takes waits =
    let is = alone shards step client old new takes in
    let h = happening is in record {
      more = h ∷ [];
      past = λ hs past. (
        past-then hs is past,
        All-cons (IsMissing shards) h [] (refl, waits) (All-nil (IsMissing shards)),
      );
    }

pub goes-then : (shards : ℕ) (a b c : Course) → GoesOn shards a b → GoesOn shards b c → GoesOn shards a c
goes-then shards a b c first second = record {
  more = first.more ++ second.more;
  past = λ hs past.
      let one = first.past hs past in
      let two = second.past (hs ++ first.more) one.0 in (
        subst (IsPast shards c) (append_assoc hs first.more second.more) two.0,
        All-append (IsMissing shards) first.more second.more one.1 two.1,
      );
}

pub has-happened : (shards : ℕ) (old : Course) (m : MachineParts) (hs : List Happening) (events : List Event) (t : Transcript)
    → IsPast shards old hs → map event_of hs ≡ events → GoesOn shards old (course_of m) → m.opens ≡ none_open → t.requests ≡ m.requests
    → t.replies ≡ m.replies → t.journal ≡ m.state.store.journal → HasHappened events shards t
has-happened shards old m hs events t past taken goes closed requests replies journal =
    let both = goes.past hs past in
    let now = both.0 in record {
      last = moment_of m;
      happenings = hs;
      missing = goes.more;
      taken = taken;
      waited = both.1;
      follow = now.follow;
      journal = sym journal;
      closed = closed;
      requests = requests ∙ now.requests;
      replies = replies ∙ now.replies;
      takes = now.takes;
      moves = now.moves;
      timely = now.timely;
    }

-- an event more
pub event-then : (hs : List Happening) (h : Happening) (e : Event) (more rest all : List Event) → map event_of hs ++ rest ≡ all
    → rest ≡ e ∷ more → event_of h ≡ e → map event_of (hs ++ h ∷ []) ++ more ≡ all
event-then hs h e more rest all so_far first is =
    ap (λ es. es ++ more) (map-append event_of hs (h ∷ []))
    ∙ append_assoc (map event_of hs) (event_of h ∷ []) more
    ∙ ap (λ x. map event_of hs ++ (x ∷ more)) is
    ∙ ap (λ es. map event_of hs ++ es) (sym first)
    ∙ so_far
