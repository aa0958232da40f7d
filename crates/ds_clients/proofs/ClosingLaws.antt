-- The run that is legal once the store has ended.
use Rattle.std.proofs.Common.{◌≡◌, ℕ, ◌+◌, ◌-◌, ◌≤◌, List, [], ◌∷◌, ◌++◌, length, refl, ap, sym, ◌∙◌, subst, arith, Option}
use Rattle.std.specs.Prelude.{flat_map, All, IsPermutation, max}
use Rattle.std.specs.List.{range_with_len}
use Rattle.std.proofs.lemmas.List.{append-nil}
use Rattle.std.proofs.lemmas.Grind.{flat_map-append}
use Rattle.std.proofs.lemmas.List.Elements.{All-nil, All-cons, All-head, All-tail}
use Rattle.std.proofs.lemmas.List.Sorted.{IsPermutation-sym, IsPermutation-trans}
use Rattle.ds_draw.specs.Draws.{numbers}
use Rattle.ds_indexdef.specs.declared.IndexDef.{IndexDef}
use Rattle.ds_log.specs.declared.Commit.{Commit}
use Rattle.ds_rounds.specs.Rounds.{NumberedLine}
use Rattle.ds_model.specs.Asked.{asked}
use Rattle.ds_model.specs.Legal.{Legal, acknowledged, drawn_in, answered_lines}
use Rattle.ds_model.specs.Sessions.{first_id, first_sessions}
use Rattle.ds_store.specs.Ending.{HaveEnded, Begins, commits_of_all, draws_of_all}
use Rattle.ds_store.specs.Passes.{nothing_seen}
use Rattle.ds_store.specs.Passes.{PassParts, HasRead}
use Rattle.ds_clients.specs.Runs.{HasRun, AllBegin, IsIdle, passes_of, seen_of}
use Rattle.ds_client.specs.Sessions.{SessionParts}

-- ---- of all passes those of the sessions

module _ (P : PassParts → Type 0) where
  all-front : (ps qs : List PassParts) → All P (ps ++ qs) → All P ps
  all-front [] qs all = All-nil P
  all-front (p ∷ ps) qs all = All-cons P p ps (All-head P p (ps ++ qs) all) (all-front ps qs (All-tail P p (ps ++ qs) all))

  all-sessions : (Q : SessionParts → Type 0) → ((s : SessionParts) → P s.pass → Q s) → (sessions : List SessionParts)
      → All P (passes_of sessions)
      → All Q sessions
  all-sessions Q each [] all = All-nil Q
  all-sessions Q each (s ∷ sessions) all =
      All-cons Q s sessions (each s (All-head P s.pass (passes_of sessions) all))
      (all-sessions Q each sessions (All-tail P s.pass (passes_of sessions) all))

-- ---- what idle passes did, and the others

none-idle : (f : PassParts → List ℕ) → ((p : PassParts) → IsIdle p → f p ≡ []) → (idle : List PassParts) → All IsIdle idle
    → flat_map f idle ≡ []
none-idle f each [] all = refl
none-idle f each (p ∷ idle) all =
    ap (λ ns. ns ++ flat_map f idle) (each p (All-head IsIdle p idle all)) ∙ none-idle f each idle (All-tail IsIdle p idle all)

of-sessions : (f : PassParts → List ℕ) (sessions : List SessionParts) → flat_map f (passes_of sessions) ≡ flat_map (λ s. f s.pass) sessions
of-sessions f [] = refl
of-sessions f (s ∷ sessions) = ap (λ ns. f s.pass ++ ns) (of-sessions f sessions)

all-of-sessions : (f : PassParts → List ℕ) → ((p : PassParts) → IsIdle p → f p ≡ [])
    → (sessions : List SessionParts) (idle : List PassParts)
    → All IsIdle idle → flat_map f (passes_of sessions ++ idle) ≡ flat_map (λ s. f s.pass) sessions
all-of-sessions f each sessions idle all =
    flat_map-append f (passes_of sessions) idle ∙ ap (λ ns. flat_map f (passes_of sessions) ++ ns) (none-idle f each idle all)
    ∙ append-nil (flat_map f (passes_of sessions)) ∙ of-sessions f sessions

-- ---- passes that neither commit nor draw

-- a pass that nobody has used yet
pub idle_first : (shards : ℕ) → IsIdle (nothing_seen shards)
idle_first shards = record { commits = refl; draws = refl }

-- applying entries, reading, looking and meeting leave it so
pub idle_later : (p q : PassParts) → HasRead p q → IsIdle p → IsIdle q
idle_later p q h idle = record { commits = h.commits ∙ idle.commits; draws = h.draws ∙ idle.draws }

-- ---- the legal run

-- The rounds that were run are a legal run over the closed journal: the passes that the store has ended with are those of the sessions,
-- and others that committed and drew nothing.
pub legal_run : (definitions : List IndexDef) (shards : ℕ) (window : Option ℕ) (rounds : List (List NumberedLine)) (now : List SessionParts)
    (text : List ℕ) (passes idle : List PassParts) (journal : List Commit) (next : ℕ)
    → (run : HasRun definitions shards window (first_sessions shards) rounds now text) → passes ≡ passes_of now ++ idle → All IsIdle idle
    → HaveEnded shards passes journal next → Legal definitions shards window rounds journal run.replies
legal_run definitions shards window rounds now text passes idle journal next run are idle_all ended = record {
  after = seen_of now;
  steps = run.steps journal begin;
  commits = IsPermutation-trans (flat_map acknowledged run.replies) (commits_of_all passes) (range_with_len 1 (length journal))
      (subst (IsPermutation (flat_map acknowledged run.replies)) (sym own_commits) run.commits)
      (subst (IsPermutation (commits_of_all passes)) (ap (range_with_len 1) counted)
      (IsPermutation-sym (numbers 1 (length journal + 1)) (commits_of_all passes) ended.commits));
  ids = record {
    bound = max first_id next;
    from_first = omega arith;
    each_once = IsPermutation-trans (drawn_in (asked shards) (answered_lines (asked shards) rounds) run.replies) (draws_of_all passes)
        (range_with_len first_id (max first_id next - first_id))
        (subst (IsPermutation (drawn_in (asked shards) (answered_lines (asked shards) rounds) run.replies)) (sym own_draws) run.draws)
        (subst (IsPermutation (draws_of_all passes)) (ap (range_with_len first_id) bounded)
        (IsPermutation-sym (numbers first_id next) (draws_of_all passes) ended.draws));
    accepted_below = run.accepts (max first_id next) below;
    printed_within = run.prints (max first_id next) below;
  };
} where
  begin : AllBegin shards journal now
  begin = all-sessions (Begins shards journal) (λ s. Begins shards journal s.pass) (λ s begins. begins) now
      (all-front (Begins shards journal) (passes_of now) idle (subst (All (Begins shards journal)) are ended.begin))

  own_commits : commits_of_all passes ≡ flat_map (λ s. s.pass.commits) now
  own_commits = ap commits_of_all are ∙ all-of-sessions (λ p. p.commits) (λ p is. is.commits) now idle idle_all

  own_draws : draws_of_all passes ≡ flat_map (λ s. s.pass.draws) now
  own_draws = ap draws_of_all are ∙ all-of-sessions (λ p. p.draws) (λ p is. is.draws) now idle idle_all

  counted : length journal + 1 - 1 ≡ length journal
  counted = omega arith

  bounded : next - first_id ≡ max first_id next - first_id
  bounded = omega arith

  below : All (λ s. s.pass.next ≤ max first_id next) now
  below = all-sessions (λ p. p.next ≤ next) (λ s. s.pass.next ≤ max first_id next) (λ s within. omega arith) now
      (all-front (λ p. p.next ≤ next) (passes_of now) idle (subst (All (λ p. p.next ≤ next)) are ended.counters))
