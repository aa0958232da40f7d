-- The run that is legal behind a journal which was there before, once the store has ended.
use Rattle.std.proofs.Common.{◌≡◌, ℕ, ◌+◌, ◌-◌, ◌<◌, ◌≤◌, List, [], ◌∷◌, ◌++◌, length, refl, ap, sym, ◌∙◌, subst, arith, Option}
use Rattle.std.proofs.Common.{append_assoc, length-append}
use Rattle.std.specs.Prelude.{flat_map, All, IsPermutation}
use Rattle.std.specs.List.{range_with_len}
use Rattle.std.proofs.lemmas.List.{append-nil}
use Rattle.std.proofs.lemmas.Grind.{flat_map-append}
use Rattle.std.proofs.lemmas.List.Elements.{All-nil, All-cons, All-head, All-tail}
use Rattle.std.proofs.lemmas.List.Sorted.{IsPermutation-append_comm, IsPermutation-sym, IsPermutation-trans}
use mathlib.Core.List.{IsPrefix}
use Rattle.ds_base.specs.Limits.{first_drawn_id}
use Rattle.ds_draw.specs.Draws.{numbers}
use Rattle.ds_indexdef.specs.declared.IndexDef.{IndexDef}
use Rattle.ds_log.specs.declared.Commit.{Commit}
use Rattle.ds_rounds.specs.Rounds.{NumberedLine}
use Rattle.ds_model.specs.Asked.{asked}
use Rattle.ds_model.specs.Legal.{acknowledged, answered_lines, drawn_in}
use Rattle.ds_model.specs.Sessions.{Session}
use Rattle.ds_store.specs.Ending.{HaveEnded, Begins, commits_of_all, draws_of_all}
use Rattle.ds_store.specs.Passes.{PassParts}
use Rattle.ds_clients.specs.Runs.{HasRun, AllBegin, IsIdle, passes_of, seen_of}
use Rattle.ds_clients.specs.Sessions.{SessionParts}
use Rattle.ds_serving.specs.Continued.{HasLoaded, LegalBehind}
use Rattle.ds_serving.proofs.Alike.{all_sessions, flat_of}
use Rattle.ds_serving.proofs.Cancelling.{after_kept}

-- ---- of all passes those of the sessions, and the one that loaded

module _ (P : PassParts → Type 0) where
  front-of : (ps qs : List PassParts) → All P (ps ++ qs) → All P ps
  front-of [] qs all = All-nil P
  front-of (p ∷ ps) qs all = All-cons P p ps (All-head P p (ps ++ qs) all) (front-of ps qs (All-tail P p (ps ++ qs) all))

  back-of : (ps qs : List PassParts) → All P (ps ++ qs) → All P qs
  back-of [] qs all = all
  back-of (p ∷ ps) qs all = back-of ps qs (All-tail P p (ps ++ qs) all)

  of_sessions : (passes idle : List PassParts) (now : List SessionParts) (loader : PassParts)
      → passes ≡ (idle ++ passes_of now) ++ loader ∷ [] → All P passes → All (λ s. P s.pass) now
  of_sessions passes idle now loader are all =
      all_sessions P now (back-of idle (passes_of now) (front-of (idle ++ passes_of now) (loader ∷ []) (subst (All P) are all)))

  pub of_loader : (passes others : List PassParts) (loader : PassParts) → passes ≡ others ++ loader ∷ [] → All P passes → P loader
  of_loader passes others loader are all = All-head P loader [] (back-of others (loader ∷ []) (subst (All P) are all))

none-of : (f : PassParts → List ℕ) → ((p : PassParts) → IsIdle p → f p ≡ []) → (idle : List PassParts) → All IsIdle idle
    → flat_map f idle ≡ []
none-of f each [] all = refl
none-of f each (p ∷ idle) all =
    ap (λ ns. ns ++ flat_map f idle) (each p (All-head IsIdle p idle all)) ∙ none-of f each idle (All-tail IsIdle p idle all)

own-and-loaded : (f : PassParts → List ℕ) → ((p : PassParts) → IsIdle p → f p ≡ []) → (passes idle : List PassParts)
    (now : List SessionParts) (loader : PassParts) → All IsIdle idle → passes ≡ (idle ++ passes_of now) ++ loader ∷ []
    → flat_map f passes ≡ flat_map (λ s. f s.pass) now ++ f loader
own-and-loaded f each passes idle now loader all are =
    ap (flat_map f) are ∙ flat_map-append f (idle ++ passes_of now) (loader ∷ [])
    ∙ ap (λ ns. ns ++ (f loader ++ []))
    (flat_map-append f idle (passes_of now) ∙ ap (λ ns. ns ++ flat_map f (passes_of now)) (none-of f each idle all) ∙ flat_of f now)
    ∙ ap (λ ns. flat_map (λ s. f s.pass) now ++ ns) (append-nil (f loader))

-- numbers that stand once each, without those that were loaded
without : (from k m : ℕ) (own loaded all whole : List ℕ) → loaded ≡ range_with_len from k → all ≡ own ++ loaded
    → whole ≡ range_with_len from (k + m) → IsPermutation whole all → IsPermutation own (range_with_len (from + k) m)
without from k m own loaded all whole is split long once =
    after_kept from k m own
    (subst (λ ns. IsPermutation (ns ++ own) (range_with_len from (k + m))) is
    (subst (IsPermutation (loaded ++ own)) long
    (IsPermutation-trans (loaded ++ own) all whole
    (subst (IsPermutation (loaded ++ own)) (sym split) (IsPermutation-append_comm loaded own))
    (IsPermutation-sym whole all once))))

-- ---- the legal run

-- The rounds that were run are a legal run behind what was loaded: the passes with which the store has ended are those of the sessions, the
-- one that loaded, and others that committed and drew nothing.
pub legal_behind : (definitions : List IndexDef) (shards : ℕ) (window : Option ℕ) (first : List Session)
    (rounds : List (List NumberedLine)) (now : List SessionParts) (text : List ℕ) (passes idle : List PassParts) (loader : PassParts)
    (kept : List Commit) (kept_next : ℕ) (journal : List Commit) (next : ℕ)
    → (run : HasRun definitions shards window first rounds now text) → passes ≡ (idle ++ passes_of now) ++ loader ∷ []
    → All IsIdle idle → HasLoaded kept kept_next loader → HaveEnded shards passes journal next
    → LegalBehind definitions shards window kept kept_next first rounds journal run.replies
legal_behind definitions shards window first rounds now text passes idle loader kept kept_next journal next run are idle_all loaded ended =
    record {
      behind = behind;
      begins = sym whole;
      after = seen_of now;
      steps = run.steps journal (of_sessions (Begins shards journal) passes idle now loader are ended.begin);
      commits = IsPermutation-trans (flat_map acknowledged run.replies) (flat_map (λ s. s.pass.commits) now)
          (range_with_len (length kept + 1) (length behind)) run.commits
          (subst (λ n. IsPermutation (flat_map (λ s. s.pass.commits) now) (range_with_len n (length behind))) later
          (without 1 (length kept) (length behind) (flat_map (λ s. s.pass.commits) now) loader.commits (commits_of_all passes)
          (numbers 1 (length journal + 1)) loaded.commits
          (own-and-loaded (λ p. p.commits) (λ p is. is.commits) passes idle now loader idle_all are) counted ended.commits));
      ids = record {
        bound = next;
        from_kept = risen;
        each_once = IsPermutation-trans (drawn_in (asked shards) (answered_lines (asked shards) rounds) run.replies)
            (flat_map (λ s. s.pass.draws) now) (range_with_len kept_next (next - kept_next)) run.draws
            (subst (λ n. IsPermutation (flat_map (λ s. s.pass.draws) now) (range_with_len n (next - kept_next))) from_there
            (without first_drawn_id (kept_next - first_drawn_id) (next - kept_next) (flat_map (λ s. s.pass.draws) now) loader.draws
            (draws_of_all passes) (numbers first_drawn_id next) loaded.draws
            (own-and-loaded (λ p. p.draws) (λ p is. is.draws) passes idle now loader idle_all are) drawn ended.draws));
        accepted_below = run.accepts next below;
        printed_within = run.prints next below;
      };
    } where
      seen : IsPrefix loader.journal journal
      seen = (of_loader (Begins shards journal) passes (idle ++ passes_of now) loader are ended.begin).0

      behind : List Commit
      behind = loaded.seen.0 ++ seen.0

      whole : kept ++ behind ≡ journal
      whole = sym (append_assoc kept loaded.seen.0 seen.0) ∙ ap (λ js. js ++ seen.0) loaded.seen.1 ∙ seen.1

      later : 1 + length kept ≡ length kept + 1
      later = omega arith

      counted : numbers 1 (length journal + 1) ≡ range_with_len 1 (length kept + length behind)
      counted =
          let long : length journal ≡ length kept + length behind = ap (λ (js : List Commit). length js) (sym whole) ∙ length-append kept behind in
          let n : length journal + 1 - 1 ≡ length kept + length behind = omega (arith, long) in
          ap (range_with_len 1) n

      risen : kept_next ≤ next
      risen =
          let within = of_loader (λ p. p.next ≤ next) passes (idle ++ passes_of now) loader are ended.counters in
          omega (arith, within, loaded.shown)

      from_there : first_drawn_id + (kept_next - first_drawn_id) ≡ kept_next
      from_there = omega (arith, loaded.least)

      drawn : numbers first_drawn_id next ≡ range_with_len first_drawn_id (kept_next - first_drawn_id + (next - kept_next))
      drawn =
          let n : next - first_drawn_id ≡ kept_next - first_drawn_id + (next - kept_next) = omega (arith, loaded.least, risen) in
          ap (range_with_len first_drawn_id) n

      below : All (λ s. s.pass.next ≤ next) now
      below = of_sessions (λ p. p.next ≤ next) passes idle now loader are ended.counters
