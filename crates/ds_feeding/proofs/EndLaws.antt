-- A loaded store that is closed at once.
use Rattle.std.proofs.Common.{◌≡◌, ℕ, zero, suc, ◌+◌, ◌-◌, ◌≤◌, List, [], ◌∷◌, ◌++◌, length, replicate, ap, sym, ◌∙◌, subst, arith}
use Rattle.std.proofs.Common.{length-append}
use Rattle.std.specs.Prelude.{All}
use Rattle.std.specs.List.{range_with_len}
use Rattle.std.proofs.lemmas.List.{append-nil, length-replicate}
use Rattle.std.proofs.lemmas.List.Elements.{All-head, All-tail}
use Rattle.std.proofs.lemmas.List.FromFn.{length-range_with_len}
use Rattle.std.proofs.lemmas.List.Sorted.{length_permutation}
use Rattle.ds_base.specs.Limits.{first_drawn_id}
use Rattle.ds_draw.specs.Draws.{numbers}
use Rattle.ds_log.specs.declared.Commit.{Commit}
use Rattle.ds_store.specs.Ending.{Begins, HaveEnded, commits_of_all, draws_of_all}
use Rattle.ds_store.specs.Loads.{LoadingParts, loaded}
use Rattle.ds_store.specs.Passes.{PassParts, StoreParts, nothing_seen}
use Rattle.ds_store_passes.proofs.Growing.{begins_whole}

-- as many passes as it was opened for
pub as_many : (n : ℕ) (p loader : PassParts) → 1 ≤ n → length (replicate (n - 1) p ++ loader ∷ []) ≡ n
as_many n p loader some = omega (arith, some, length-append (replicate (n - 1) p) (loader ∷ []), length-replicate (n - 1) p)

-- what all passes did is what the last one did
all_commits : (n shards : ℕ) (loader : PassParts) → commits_of_all (replicate n (nothing_seen shards) ++ loader ∷ []) ≡ loader.commits
all_commits zero shards loader = append-nil loader.commits
all_commits (suc n) shards loader = all_commits n shards loader

all_draws : (n shards : ℕ) (loader : PassParts) → draws_of_all (replicate n (nothing_seen shards) ++ loader ∷ []) ≡ loader.draws
all_draws zero shards loader = append-nil loader.draws
all_draws (suc n) shards loader = all_draws n shards loader

module _ (P : PassParts → Type 0) where
  last_one : (front : List PassParts) (last : PassParts) → All P (front ++ last ∷ []) → P last
  last_one [] last all = All-head P last [] all
  last_one (p ∷ front) last all = last_one front last (All-tail P p (front ++ last ∷ []) all)

module _ (shards n : ℕ) (journal all : List Commit) (next last : ℕ)
    (ended : HaveEnded shards (replicate n (nothing_seen shards) ++ loaded shards journal next ∷ []) all last) where
  -- its journal is what was loaded
  ended_journal : all ≡ journal
  ended_journal =
      let loader = loaded shards journal next in
      let passes = replicate n (nothing_seen shards) ++ loader ∷ [] in
      let begins = last_one (Begins shards all) (replicate n (nothing_seen shards)) loader ended.begin in
      let own : length (commits_of_all passes) ≡ length (range_with_len 1 (length journal)) = ap length (all_commits n shards loader) in
      let each : length (commits_of_all passes) ≡ length (numbers 1 (length all + 1)) =
      length_permutation (numbers 1 (length all + 1)) (commits_of_all passes) ended.commits in
      sym (begins_whole journal all begins.0
      (omega (arith, own, each, length-range_with_len 1 (length journal), length-range_with_len 1 (length all + 1 - 1))))

  -- and its id counter
  ended_next : first_drawn_id ≤ next → last ≡ next
  ended_next least =
      let loader = loaded shards journal next in
      let passes = replicate n (nothing_seen shards) ++ loader ∷ [] in
      let shown : next ≤ last = last_one (λ p. p.next ≤ last) (replicate n (nothing_seen shards)) loader ended.counters in
      let drawn : length (draws_of_all passes) ≡ length (range_with_len first_drawn_id (next - first_drawn_id)) =
      ap length (all_draws n shards loader) in
      let each : length (draws_of_all passes) ≡ length (numbers first_drawn_id last) =
      length_permutation (numbers first_drawn_id last) (draws_of_all passes) ended.draws in
      omega (
        arith,
        least,
        shown,
        drawn,
        each,
        length-range_with_len first_drawn_id (next - first_drawn_id),
        length-range_with_len first_drawn_id (last - first_drawn_id),
      )

-- what was fed and shared, and then closed
pub closed : (before fed : LoadingParts) (store : StoreParts) (passes : List PassParts) (all : List Commit) (last : ℕ) → fed ≡ before
    → store.shards ≡ fed.shards
    → passes ≡ replicate (fed.passes - 1) (nothing_seen fed.shards) ++ loaded fed.shards fed.journal fed.next ∷ []
    → first_drawn_id ≤ fed.next → HaveEnded store.shards passes all last → (all ≡ before.journal) × (last ≡ before.next)
closed before fed store passes all last same shards are least ended =
    let as_loaded : HaveEnded fed.shards (replicate (fed.passes - 1) (nothing_seen fed.shards)
    ++ loaded fed.shards fed.journal fed.next ∷ []) all last =
    subst (λ ps. HaveEnded fed.shards ps all last) are (subst (λ n. HaveEnded n passes all last) shards ended) in (
      ended_journal fed.shards (fed.passes - 1) fed.journal all fed.next last as_loaded ∙ ap (λ (p : LoadingParts). p.journal) same,
      ended_next fed.shards (fed.passes - 1) fed.journal all fed.next last as_loaded least ∙ ap (λ (p : LoadingParts). p.next) same,
    )
