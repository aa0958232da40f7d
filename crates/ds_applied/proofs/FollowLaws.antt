-- Lists that follow a journal: those of no commit, of a longer journal, and the part of them that the first commits give.
use Rattle.std.proofs.Common.{◌≡◌, ℕ, zero, suc, ◌+◌, ◌<◌, ◌≤◌, List, [], ◌∷◌, ◌++◌, length, take, map, refl, ap, sym, ◌∙◌}
use Rattle.std.proofs.Common.{arith}
use Rattle.std.specs.Prelude.{Some, slice_get, unwrap_or, replicate}
use Rattle.std.specs.List.{range_with_len}
use Rattle.std.proofs.lemmas.List.{take-append-le}
use Rattle.ds_log.specs.declared.Commit.{Commit}
use Rattle.ds_log.specs.declared.Entry.{Entry}
use Rattle.ds_log.specs.Logs.{shard_list}
use Rattle.ds_log.specs.ShardLaws.{shard_list-first}
use Rattle.ds_model.specs.Sessions.{list_of}
use Rattle.ds_model.specs.Worlds.{shard_lists}
use Rattle.ds_applied.specs.AppliedLists.{AppliedParts, Follows, entries_by}

-- ---- a longer journal

-- the first commits of a journal are those of a longer one
pub first_commits : (n : ℕ) (journal more : List Commit) → n ≤ length journal → take n (journal ++ more) ≡ take n journal
first_commits n journal more within = take-append-le {A = Commit} n journal more within

-- What follows a journal follows each longer one.
pub Follows-append : (journal more : List Commit) (a : AppliedParts) → Follows journal a → Follows (journal ++ more) a
Follows-append journal more a follows = record {
  within = omega (arith, follows.within, length_append journal more);
  lists = follows.lists ∙ ap (shard_lists a.shards) (sym (first_commits a.commits journal more follows.within));
} where
  length_append : (xs ys : List Commit) → length xs ≤ length (xs ++ ys)
  length_append [] ys = omega arith
  length_append (x ∷ xs) ys = let rest = length_append xs ys in omega (arith, rest)

no_lists : (shards first n : ℕ) → replicate n [] ≡ map (λ shard. shard_list [] shard shards) (range_with_len first n)
no_lists shards first zero = refl
no_lists shards first (suc n) = ap (λ (lists : List (List Entry)). [] ∷ lists) (no_lists shards (first + 1) n)

-- Shards without entries follow the empty journal.
pub Follows-made : (shards : ℕ)
    → Follows [] (record { shards = shards; commits = 0; lists = replicate shards []; counts = replicate shards 0 })
Follows-made shards = record { within = omega arith; lists = no_lists shards 0 shards }

-- ---- one of the lists

of_shard : (journal : List Commit) (shards first n i : ℕ) → i < n
    → slice_get (map (λ shard. shard_list journal shard shards) (range_with_len first n)) i ≡ Some (shard_list journal (first + i) shards)
of_shard journal shards first zero i below = absurd (omega (arith, below))
of_shard journal shards first (suc n) zero below =
    ap (λ s. Some (shard_list journal s shards)) (let e : first ≡ first + 0 = omega arith in e)
of_shard journal shards first (suc n) (suc i) below =
    of_shard journal shards (first + 1) n i (let w : i < n = omega (arith, below) in w)
    ∙ ap (λ s. Some (shard_list journal s shards)) (let e : first + 1 + i ≡ first + suc i = omega arith in e)

-- a shard's list is that of the commits that were looked at
pub list_followed : (journal : List Commit) (a : AppliedParts) (shard : ℕ) → Follows journal a → shard < a.shards
    → list_of a.lists shard ≡ shard_list (take a.commits journal) shard a.shards
list_followed journal a shard follows below =
    ap (λ lists. list_of lists shard) follows.lists
    ∙ ap (λ o. unwrap_or o []) (of_shard (take a.commits journal) a.shards 0 a.shards shard below)
    ∙ ap (λ s. shard_list (take a.commits journal) s a.shards) (let e : 0 + shard ≡ shard = omega arith in e)

-- and its first entries those of the first m commits
pub list_up_to : (journal : List Commit) (a : AppliedParts) (shard m : ℕ) → Follows journal a → shard < a.shards → m ≤ a.commits
    → take (entries_by journal a.shards shard m) (list_of a.lists shard) ≡ shard_list (take m journal) shard a.shards
list_up_to journal a shard m follows below within =
    ap (take (entries_by journal a.shards shard m)) (list_followed journal a shard follows below)
    ∙ shard_list-first m a.commits journal shard a.shards within
