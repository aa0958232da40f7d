-- What the ends of the words and of the hubs say of all passes.
use Rattle.std.proofs.Common.{◌≡◌, ℕ, suc, ◌+◌, ◌-◌, ◌<◌, ◌≤◌, List, [], ◌∷◌, length, map, get_or, refl, subst}
use Rattle.std.proofs.Common.{arith}
use Rattle.std.specs.Prelude.{Bool, true, false, nat_le, All, Contains}
use Rattle.std.specs.List.{range_with_len}
use Rattle.std.proofs.lemmas.Bool.{leb-true, leb-false}
use Rattle.std.proofs.lemmas.List.FromFn.{length-range_with_len, get_or-range_with_len}
use Rattle.std.proofs.lemmas.List.Sorted.{All-permutation, IsPermutation-sym}
use Rattle.std.proofs.lemmas.List.Elements.{All-nil, All-head, All-tail, All-append, All-contains}
use mathlib.Core.List.{IsPrefix}
use Rattle.ds_draw.specs.Draws.{HasEachOnce, SeatView, numbers, draws_of}
use Rattle.ds_hub.specs.Growing.{AreLonger}
use Rattle.ds_base.specs.Limits.{first_drawn_id}
use Rattle.ds_log.specs.declared.Commit.{Commit}
use Rattle.ds_log.specs.declared.Entry.{Entry}
use Rattle.ds_log.specs.Logs.{shard_list}
use Rattle.ds_model.specs.Sessions.{list_of}
use Rattle.ds_store_passes.specs.Ending.{Begins, IsConfirmed, HaveEnded, commits_of_all, draws_of_all}
use Rattle.ds_store_passes.specs.Passes.{PassParts}
use Rattle.ds_store_passes.proofs.Growing.{begins_no_longer}

-- ---- the numbers of commits

-- where the numbers from 1 up to r are drawn, and none above m, r is at most m + 1
drawn-low : (m r : ℕ) (drawn : List ℕ) → HasEachOnce 1 r drawn → All (λ n. n ≤ m) drawn → r ≤ m + 1
drawn-low m r drawn each low = by (nat_le r (m + 1)) refl where
  by : (b : Bool) → nat_le r (m + 1) ≡ b → r ≤ m + 1
  by true is = leb-true r (m + 1) is
  by false is =
      let high : m + 1 < r = leb-false r (m + 1) is in
      let all : All (λ n. n ≤ m) (numbers 1 r) = All-permutation (λ n. n ≤ m) drawn (numbers 1 r) (IsPermutation-sym (numbers 1 r) drawn
      each) low in
      let many : length (numbers 1 r) ≡ r - 1 = length-range_with_len 1 (r - 1) in
      let there : get_or (numbers 1 r) m 0 ≤ m = all m 0 (omega (arith, many, high)) in
      let is_next : get_or (numbers 1 r) m 0 ≡ 1 + m = get_or-range_with_len 1 (r - 1) m 0 (omega (arith, high)) in
      absurd (omega (arith, there, is_next))

own-low : (shards : ℕ) (journal : List Commit) (passes : List PassParts) → All (IsConfirmed shards journal) passes
    → All (λ n. n ≤ length journal) (commits_of_all passes)
own-low shards journal [] confirmed = All-nil (λ n. n ≤ length journal)
own-low shards journal (p ∷ ps) confirmed =
    let here = All-head (IsConfirmed shards journal) p ps confirmed in
    let longer = begins_no_longer p.journal journal here.begins in
    All-append (λ n. n ≤ length journal) p.commits (commits_of_all ps)
    (λ k d lt. let own = here.own k d lt in omega (arith, own, longer))
    (own-low shards journal ps (All-tail (IsConfirmed shards journal) p ps confirmed))

-- ---- the lists of the shards

longer-each : (a : ℕ) (lists : List (List Entry)) (f : ℕ → List Entry)
    → ((s : ℕ) → s < length lists → IsPrefix (list_of lists s) (f (a + s)))
    → AreLonger lists (map f (range_with_len a (length lists)))
longer-each a [] f each = tt
longer-each a (x ∷ xs) f each =
    let here : a + 0 ≡ a = omega arith in (
      subst (λ n. IsPrefix x (f n)) here (each 0 (omega arith)),
      longer-each (a + 1) xs f
          (λ s low. let there : a + suc s ≡ a + 1 + s = omega arith in
          subst (λ n. IsPrefix (list_of xs s) (f n)) there (each (suc s) (omega arith))),
    )

all-begin : (shards : ℕ) (journal : List Commit) (passes : List PassParts) → All (IsConfirmed shards journal) passes
    → ((s : ℕ) → s < shards → All (λ p. IsPrefix (list_of p.lists s) (shard_list journal s shards)) passes)
    → All (Begins shards journal) passes
all-begin shards journal passes confirmed each k d lt =
    let p : PassParts = get_or passes k d in
    let here : IsConfirmed shards journal p = confirmed k d lt in
    let f : ℕ → List Entry = λ s. shard_list journal s shards in (
      here.begins,
      subst (λ n. AreLonger p.lists (map f (range_with_len 0 n))) here.whole
          (longer-each 0 p.lists f
          (λ s low. let at : s ≡ 0 + s = omega arith in
          let low' : s < shards = let many = here.whole in omega (arith, many, low) in
          subst (λ n. IsPrefix (list_of p.lists s) (f n)) at (each s low' k d lt))),
    )

-- ---- all of it

pub ended : (shards : ℕ) (passes : List PassParts) (journal : List Commit) (next last : ℕ) (commits ids : List SeatView) (keeper : SeatView)
    → All (IsConfirmed shards journal) passes
    → ((s : ℕ) → s < shards → All (λ p. IsPrefix (list_of p.lists s) (shard_list journal s shards)) passes)
    → draws_of commits ≡ commits_of_all passes → draws_of ids ≡ draws_of_all passes
    → HasEachOnce 1 last (draws_of commits) → All (λ s. s.counter ≤ last) commits → Contains commits keeper
    → length journal + 1 ≤ keeper.counter
    → HasEachOnce first_drawn_id next (draws_of ids) → All (λ p. p.next ≤ next) passes
    → HaveEnded shards passes journal next
ended shards passes journal next last commits ids keeper confirmed each own drawn each_commit counters kept above each_id shown =
    let once : HasEachOnce 1 last (commits_of_all passes) = subst (HasEachOnce 1 last) own each_commit in
    let low : last ≤ length journal + 1 = drawn-low (length journal) last (commits_of_all passes) once
    (own-low shards journal passes confirmed) in
    let high : keeper.counter ≤ last = All-contains (λ (s : SeatView). s.counter ≤ last) commits keeper counters kept in
    let is : last ≡ length journal + 1 = omega (arith, low, high, above) in
    record {
      begin = all-begin shards journal passes confirmed each;
      commits = subst (λ n. HasEachOnce 1 n (commits_of_all passes)) is once;
      draws = subst (HasEachOnce first_drawn_id next) drawn each_id;
      counters = shown;
    }
