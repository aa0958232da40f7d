-- The place that counts show: the greatest commit of the shards' last counted entries, which is one of the journal's.
use Rattle.std.proofs.Common.{◌≡◌, ℕ, zero, suc, ◌+◌, ◌<◌, ◌≤◌, List, [], ◌∷◌, length, take, map, fold, get_or, ap, sym}
use Rattle.std.proofs.Common.{◌∙◌, subst, arith}
use Rattle.std.specs.Prelude.{max, ◌==◌}
use Rattle.std.specs.List.{AllByRecursion, range_with_len}
use Rattle.std.proofs.lemmas.List.{take_all}
use Rattle.std.proofs.Math.Nat.{le-max_left, le-max_right, max-le}
use Rattle.ds_log.specs.declared.Commit.{Commit}
use Rattle.ds_log.specs.declared.Entry.{Entry}
use Rattle.ds_log.specs.Logs.{entries_from, shard_list}
use Rattle.ds_log.specs.Shards.{shard_of}
use Rattle.ds_model.specs.Sessions.{last_commit, counted_place, list_of}
use Rattle.ds_applied.specs.AppliedLists.{AppliedParts, Follows, AreCounts}
use Rattle.ds_model.proofs.AllOf.{all-filter}
use Rattle.ds_applied.proofs.UpTo.{commits_up_to}
use Rattle.ds_applied.proofs.ViewSteps.{AreCounts-length}

-- ---- within the journal

last_within : (m n count : ℕ) (es : List Entry) → n ≤ m → AllByRecursion (λ (e : Entry). e.commit ≤ m) es
    → fold (λ k (e : Entry). e.commit) n (take count es) ≤ m
last_within m n zero es low all = low
last_within m n (suc count) [] low all = low
last_within m n (suc count) (e ∷ es) low all = last_within m e.commit count es all.0 all.1

own_within : (journal : List Commit) (shard shards : ℕ)
    → AllByRecursion (λ (e : Entry). e.commit ≤ length journal) (shard_list journal shard shards)
own_within journal shard shards =
    all-filter (λ (e : Entry). e.commit ≤ length journal) (λ e. shard_of e.group shards == shard) (entries_from 1 journal)
    (commits_up_to (length journal) 1 journal (omega arith))

place_within : (journal : List Commit) (shards first n : ℕ) (counts : List ℕ)
    → counted_place (map (λ shard. shard_list journal shard shards) (range_with_len first n)) counts ≤ length journal
place_within journal shards first zero counts = omega arith
place_within journal shards first (suc n) [] = omega arith
place_within journal shards first (suc n) (count ∷ counts) =
    max-le (last_within (length journal) 0 count (shard_list journal first shards) (omega arith) (own_within journal first shards))
    (place_within journal shards (first + 1) n counts)

-- The place that counts show is one of the journal.
pub counted_place-within : (journal : List Commit) (a : AppliedParts) (counts : List ℕ) → Follows journal a
    → counted_place a.lists counts ≤ length journal
counted_place-within journal a counts follows =
    let few : length (take a.commits journal) ≤ length journal = taken_le a.commits journal in
    let low = subst (λ lists. counted_place lists counts ≤ length (take a.commits journal)) (sym follows.lists)
    (place_within (take a.commits journal) a.shards 0 a.shards counts) in
    omega (arith, few, low)
  where
    taken_le : (n : ℕ) (cs : List Commit) → length (take n cs) ≤ length cs
    taken_le zero cs = omega arith
    taken_le (suc n) [] = omega arith
    taken_le (suc n) (c ∷ cs) = let rest = taken_le n cs in omega (arith, rest)

-- ---- shard by shard

same_number : (m n : ℕ) → m ≤ n → n ≤ m → m ≡ n
same_number m n p q = omega (arith, p, q)

le_trans : (a b c : ℕ) → a ≤ b → b ≤ c → a ≤ c
le_trans a b c p q = omega (arith, p, q)

max_moved : (a b c : ℕ) → max a (max b c) ≡ max (max a b) c
max_moved a b c =
    same_number (max a (max b c)) (max (max a b) c)
    (max-le (le_trans a (max a b) (max (max a b) c) (le-max_left a b) (le-max_left (max a b) c))
    (max-le (le_trans b (max a b) (max (max a b) c) (le-max_right a b) (le-max_left (max a b) c)) (le-max_right (max a b) c)))
    (max-le (max-le (le-max_left a (max b c)) (le_trans b (max b c) (max a (max b c)) (le-max_left b c) (le-max_right a (max b c))))
    (le_trans c (max b c) (max a (max b c)) (le-max_right b c) (le-max_right a (max b c))))

max_none : (a : ℕ) → max a 0 ≡ max 0 a
max_none a =
    same_number (max a 0) (max 0 a) (max-le (le-max_right 0 a) (omega arith)) (max-le (omega arith) (le-max_left a 0))

place_next : (lists : List (List Entry)) (counts : List ℕ) (i c : ℕ) → AreCounts lists counts → i < length counts → c ≡ get_or counts i 0
    → counted_place (take (suc i) lists) (take (suc i) counts)
    ≡ max (counted_place (take i lists) (take i counts)) (last_commit (take c (list_of lists i)))
place_next [] [] i c are below is = absurd (omega (arith, below))
place_next (l ∷ lists) (d ∷ counts) zero c are below is = ap (λ n. max (last_commit (take n l)) 0) (sym is)
    ∙ max_none (last_commit (take c l))
place_next (l ∷ lists) (d ∷ counts) (suc i) c are below is =
    ap (max (last_commit (take d l))) (place_next lists counts i c are.1 (let w : i < length counts = omega (arith, below) in w) is)
    ∙ max_moved (last_commit (take d l)) (counted_place (take i lists) (take i counts)) (last_commit (take c (list_of lists i)))
place_next [] (d ∷ counts) i c are below is = absurd are
place_next (l ∷ lists) [] i c are below is = absurd are

pub place_more : (lists : List (List Entry)) (counts : List ℕ) (i c place last : ℕ) → AreCounts lists counts → i < length counts
    → c ≡ get_or counts i 0
    → place ≡ counted_place (take i lists) (take i counts) → last ≡ last_commit (take c (list_of lists i))
    → max place last ≡ counted_place (take (i + 1) lists) (take (i + 1) counts)
place_more lists counts i c place last are below is so_far here =
    ap (λ p. max p last) so_far ∙ ap (max (counted_place (take i lists) (take i counts))) here
    ∙ sym (ap (λ n. counted_place (take n lists) (take n counts)) (let e : i + 1 ≡ suc i = omega arith in e)
    ∙ place_next lists counts i c are below is)

pub place_all : (lists : List (List Entry)) (counts : List ℕ) (n : ℕ) → AreCounts lists counts → n ≡ length counts
    → counted_place (take n lists) (take n counts) ≡ counted_place lists counts
place_all lists counts n are whole =
    ap (λ ls. counted_place ls (take n counts)) (take_all n lists (omega (arith, whole, AreCounts-length lists counts are)))
    ∙ ap (counted_place lists) (take_all n counts (omega (arith, whole)))
