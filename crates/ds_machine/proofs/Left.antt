-- What is left of an open request, by which the loop that takes its missing steps ends.
use Rattle.ds_machine.proofs.Words.{ℕ, zero, suc, ◌+◌, ◌-◌, ◌<◌, ◌≤◌, List, [], ◌∷◌, length, map, ap, arith, Option, Some, None, take}
use Rattle.ds_machine.proofs.Words.{length-append, slice_index_or, slice_set, Commit, shard_list, shard_list-append, Session, count_of}
use Rattle.ds_machine.proofs.Words.{raised_at, Operation, Step, GatheredParts, missing, Shown, take-append-drop}

abbrev pub lacks : Option ℕ → ℕ
lacks None = 1
lacks (Some n) = 0

abbrev pub waits : Option Step → ℕ
waits None = 0
waits (Some step) = 1

-- a View stands above none, and above one that counted less
abbrev pub level : Option ℕ → ℕ
level None = 0
level (Some n) = n + 1

-- how far numbers are below the bounds of their places
abbrev pub gaps : (ℕ → ℕ) → List ℕ → ℕ
gaps bound [] = 0
gaps bound (n ∷ ns) = (bound 0 - n) + gaps (λ k. bound (suc k)) ns

abbrev pub entries : Shown → ℕ → ℕ
entries st shard = length (shard_list st.journal shard st.shards)

-- what steps may still fill: the place, the ids, the Views up to the entries that there are, and the entries that aren't applied
abbrev pub room : Shown → GatheredParts → ℕ
room st g =
    lacks g.place + lacks g.first + gaps (λ shard. entries st shard + 1) (map level g.views) + gaps (entries st) st.counts

abbrev pub left : Shown → Session → Operation → GatheredParts → Step → ℕ
left st s o g taken = room st g + waits (missing st s o g taken)

pub waits-few : (o : Option Step) → waits o ≤ 1
waits-few None = omega arith
waits-few (Some step) = omega arith

-- a View that rises from below its bound leaves less
pub gaps-viewed : (bound : ℕ → ℕ) (views : List (Option ℕ)) (k n : ℕ) → k < length views → level (slice_index_or views k None) ≤ n
    → level (slice_index_or views k None) < bound k → gaps bound (map level (slice_set views k (Some n))) < gaps bound (map level views)
gaps-viewed bound [] k n there up low = absurd (omega (arith, there))
gaps-viewed bound (v ∷ views) zero n there up low = omega (arith, up, low)
gaps-viewed bound (v ∷ views) (suc k) n there up low =
    let rest = gaps-viewed (λ j. bound (suc j)) views k n (omega (arith, there)) up low in omega (arith, rest)

-- so does one more entry
pub gaps-raised : (bound : ℕ → ℕ) (counts : List ℕ) (k : ℕ) → k < length counts → count_of counts k < bound k
    → gaps bound (raised_at k (count_of counts k + 1) counts) < gaps bound counts
gaps-raised bound [] k there low = absurd (omega (arith, there))
gaps-raised bound (c ∷ counts) zero there low = omega (arith, low)
gaps-raised bound (c ∷ counts) (suc k) there low =
    let rest = gaps-raised (λ j. bound (suc j)) counts k (omega (arith, there)) low in omega (arith, rest)

pub entries-within : (journal : List Commit) (shard shards place : ℕ)
    → length (shard_list (take place journal) shard shards) ≤ length (shard_list journal shard shards)
entries-within journal shard shards place = omega (
  arith,
  simp (shard_list-append, length-append) at (ap (λ js. length (shard_list js shard shards)) (take-append-drop place journal)),
)
