-- Raising the counts that a session has seen.
use Rattle.ds_protocol.proofs.Words.{◌≡◌, ℕ, zero, suc, ◌+◌, ◌<◌, List, [], ◌∷◌, length, take, refl, ap, sym, arith, get_or, add-one, max}
use Rattle.ds_protocol.proofs.Words.{greater_counts}
use Rattle.std.proofs.Math.ListN.{set}
use Rattle.ds_model.specs.Sessions.{raised_at}

-- the count at a place is raised; where there is no such place, nothing is
pub raised_set : (shard count : ℕ) (cs : List ℕ) → raised_at shard count cs ≡ set cs shard (max (get_or cs shard 0) count)
raised_set shard count [] = refl
raised_set zero count (c ∷ cs) = refl
raised_set (suc shard) count (c ∷ cs) = ap (λ ns. c ∷ ns) (raised_set shard count cs)

-- without others all stays
pub greater_none : (cs : List ℕ) → greater_counts cs [] ≡ cs
greater_none [] = refl
greater_none (c ∷ cs) = refl

more : (cs os : List ℕ) (i : ℕ) → i < length os
    → raised_at i (get_or os i 0) (greater_counts cs (take i os)) ≡ greater_counts cs (take (suc i) os)
more cs [] i below = absurd (omega arith)
more [] (o ∷ os) i below = refl
more (c ∷ cs) (o ∷ os) zero below = ap (λ ns. max c o ∷ ns) (sym (greater_none cs))
more (c ∷ cs) (o ∷ os) (suc i) below = ap (λ ns. max c o ∷ ns) (more cs os i (omega arith))

-- one of the others more is taken in
pub greater_more : (cs os : List ℕ) (i : ℕ) → i < length os
    → raised_at i (get_or os i 0) (greater_counts cs (take i os)) ≡ greater_counts cs (take (i + 1) os)
greater_more cs os i below = rw add-one (more cs os i below)
