-- The commits of a shard's entries, in their order.
use Rattle.std.proofs.Common.{◌≡◌, ℕ, ◌+◌, ◌≤◌, ◌==◌, List, [], ◌∷◌, ◌++◌, filter, refl, subst, arith, Bool, true, false, cond}
use Rattle.std.specs.Prelude.{map, fold}
use Rattle.ds_base.specs.Keys.{KeyParts}
use Rattle.ds_log.specs.declared.Commit.{Commit}
use Rattle.ds_log.specs.declared.Entry.{Entry}
use Rattle.ds_log.specs.declared.Write.{Write}
use Rattle.ds_log.specs.Logs.{entries_from, group_writes, groups_of, shard_list}
use Rattle.ds_log.specs.Shards.{shard_of}
use Rattle.ds_log.specs.UpTo.{commits_of, last_number}
use Rattle.ds_store_hubs.specs.Rising.{Rises}

lower : (m n : ℕ) (es : List Entry) → m ≤ n → Rises n es → Rises m es
lower m n [] le h = tt
lower m n (e ∷ es) le h = (omega (arith, le, h.0), h.1)

own : (n : ℕ) (ws : List Write) (gs : List KeyParts) (rest : List Entry) → Rises n rest
    → Rises n (map (λ g. record { commit = n; group = g; writes = group_writes g ws }) gs ++ rest)
own n ws [] rest h = h
own n ws (g ∷ gs) rest h = (omega arith, own n ws gs rest h)

from : (n m : ℕ) (cs : List Commit) → m ≤ n → Rises m (entries_from n cs)
from n m [] le = tt
from n m (c ∷ cs) le =
    lower m n (entries_from n (c ∷ cs)) le
    (own n c.writes (groups_of c.writes) (entries_from (n + 1) cs) (from (n + 1) n cs (omega arith)))

filtered : (p : Entry → Bool) (n : ℕ) (es : List Entry) → Rises n es → Rises n (filter p es)
filtered p n [] h = tt
filtered p n (e ∷ es) h = by (p e) h.0 (filtered p e.commit es h.1) where
  by : (b : Bool) → n ≤ e.commit → Rises e.commit (filter p es) → Rises n (cond b (e ∷ filter p es) (filter p es))
  by true le rest = (le, rest)
  by false le rest = lower n e.commit (filter p es) le rest

-- a shard's entries stand in the order of their commits
pub shard_rises : (journal : List Commit) (shard shards : ℕ) → Rises 0 (shard_list journal shard shards)
shard_rises journal shard shards =
    filtered (λ e. shard_of e.group shards == shard) 0 (entries_from 1 journal) (from 1 0 journal (omega arith))

behind : (n : ℕ) (xs ys : List Entry) → Rises n (xs ++ ys) → Rises (fold (λ m c. c) n (commits_of xs)) ys
behind n [] ys h = h
behind n (x ∷ xs) ys h = behind x.commit xs ys h.1

-- so those that come behind others are of no earlier commits
pub later_rise : (journal : List Commit) (shard shards : ℕ) (xs ys : List Entry) → shard_list journal shard shards ≡ xs ++ ys
    → Rises (last_number (commits_of xs)) ys
later_rise journal shard shards xs ys is = behind 0 xs ys (subst (Rises 0) is (shard_rises journal shard shards))

-- the last number is the one that was put behind the others
pub last_pushed : (m n : ℕ) (xs : List ℕ) → fold (λ m c. c) m (xs ++ n ∷ []) ≡ n
last_pushed m n [] = refl
last_pushed m n (x ∷ xs) = last_pushed x n xs
