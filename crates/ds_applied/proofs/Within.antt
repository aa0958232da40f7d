-- No shard has applied more entries than it has, whatever changes.
use Rattle.std.proofs.Common.{◌≡◌, ℕ, zero, suc, ◌+◌, ◌≤◌, List, [], ◌∷◌, length, length-append, replicate, set}
use Rattle.std.proofs.Common.{ap, sym, ◌∙◌, subst, arith}
use Rattle.std.proofs.lemmas.List.{length-map}
use Rattle.std.specs.Prelude.{◌==◌, filter}
use Rattle.ds_base.specs.Limits.{most_shards}
use Rattle.ds_log.specs.declared.Entry.{Entry}
use Rattle.ds_log.specs.Shards.{shard_of}
use Rattle.ds_applied.specs.AppliedLists.{AppliedShard, AreCounts, entries_of, applied_of}
use Rattle.ds_applied.specs.Routing.{added}

-- where there are no entries
pub none_within : (n : ℕ) → AreCounts (replicate n []) (replicate n 0)
none_within zero = tt
none_within (suc n) = (omega arith, none_within n)

-- where the lists get entries
pub added_within : (shards first : ℕ) (lists : List (List Entry)) (counts : List ℕ) (more : List Entry) → AreCounts lists counts
    → AreCounts (added shards first lists more) counts
added_within shards first [] [] more are = tt
added_within shards first (l ∷ lists) (c ∷ counts) more are = (
  omega (arith, are.0, length-append l (filter (λ (e : Entry). shard_of e.group shards == first) more)),
  added_within shards (first + 1) lists counts more are.1,
)
added_within shards first [] (c ∷ counts) more are = absurd are
added_within shards first (l ∷ lists) [] more are = absurd are

-- where one shard is another one
pub set_within : (ss : List AppliedShard) (i : ℕ) (s : AppliedShard) → s.applied ≤ length s.entries
    → AreCounts (entries_of ss) (applied_of ss) → AreCounts (entries_of (set ss i s)) (applied_of (set ss i s))
set_within [] i s within are = are
set_within (t ∷ ss) zero s within are = (within, are.1)
set_within (t ∷ ss) (suc i) s within are = (are.0, set_within ss i s within are.1)

-- where the shards get entries, and no more are applied
pub pulled_within : (ss ts us : List AppliedShard) (shards : ℕ) (more : List Entry) → entries_of us ≡ added shards 0 (entries_of ts) more
    → applied_of us ≡ applied_of ts → entries_of ts ≡ entries_of ss → applied_of ts ≡ applied_of ss
    → (1 ≤ length ss) × (length ss ≤ most_shards) × AreCounts (entries_of ss) (applied_of ss)
    → (1 ≤ length us) × (length us ≤ most_shards) × AreCounts (entries_of us) (applied_of us)
pulled_within ss ts us shards more entries applied same_entries same_applied was =
    let counted : applied_of us ≡ applied_of ss = applied ∙ same_applied in
    let as_many : length us ≡ length ss =
    sym (length-map us (λ (s : AppliedShard). s.applied)) ∙ ap length counted ∙ length-map ss (λ (s : AppliedShard). s.applied) in (
      omega (arith, was.0, as_many),
      omega (arith, was.1, as_many),
      subst (AreCounts (entries_of us)) (sym counted)
          (subst (λ ls. AreCounts ls (applied_of ss)) (sym (entries ∙ ap (λ ls. added shards 0 ls more) same_entries))
          (added_within shards 0 (entries_of ss) (applied_of ss) more was.2)),
    )
