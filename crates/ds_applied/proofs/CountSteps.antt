-- The counts of applied entries, step by step.
use Rattle.std.proofs.Common.{◌≡◌, ℕ, zero, suc, ◌+◌, ◌<◌, ◌≤◌, List, [], ◌∷◌, length, get_or, set, ap, sym, ◌∙◌}
use Rattle.std.proofs.Common.{arith}
use Rattle.std.specs.Prelude.{max, OnOk, OnErr, Result, Ok, Err}
use Rattle.std.specs.declared.alloc.AllocError.{AllocError}
use Rattle.std.proofs.Math.Nat.{le-max_right, max-le}
use Rattle.std.proofs.Math.Seq.{map-set_same}
use Rattle.std.proofs.lemmas.List.{length-set}
use Rattle.ds_model.specs.Sessions.{count_of, list_of, raised_at}
use Rattle.ds_applied.specs.AppliedLists.{AppliedParts, AppliedShard, entries_of, applied_of}

-- ---- one count

both_le : (m n : ℕ) → m ≤ n → n ≤ m → m ≡ n
both_le m n p q = omega (arith, p, q)

max_right : (m n : ℕ) → m ≤ n → max m n ≡ n
max_right m n p = both_le (max m n) n (max-le p (let w : n ≤ n = omega arith in w)) (le-max_right m n)

-- ---- one shard among all

pub applied_raised : (ss : List AppliedShard) (i : ℕ) (d s : AppliedShard) → i < length ss → s.applied ≡ (get_or ss i d).applied + 1
    → applied_of (set ss i s) ≡ raised_at i (count_of (applied_of ss) i + 1) (applied_of ss)
applied_raised [] i d s below is = absurd (omega (arith, below))
applied_raised (t ∷ ts) zero d s below is =
    ap (λ n. n ∷ applied_of ts) (is ∙ sym (max_right t.applied (t.applied + 1) (let w : t.applied ≤ t.applied + 1 = omega arith in w)))
applied_raised (t ∷ ts) (suc i) d s below is =
    ap (λ ns. t.applied ∷ ns) (applied_raised ts i d s (let w : i < length ts = omega (arith, below) in w) is)

pub entries_kept : (ss : List AppliedShard) (i : ℕ) (d s : AppliedShard) → s.entries ≡ (get_or ss i d).entries
    → entries_of (set ss i s) ≡ entries_of ss
entries_kept ss i d s same = map-set_same (λ (t : AppliedShard). t.entries) ss i s d same

pub list_index : (ss : List AppliedShard) (i : ℕ) (s : AppliedShard) → i < length ss → s ≡ get_or ss i s → s.entries ≡ list_of (entries_of ss) i
list_index [] i s below is = absurd (omega (arith, below))
list_index (t ∷ ts) zero s below is = ap (λ (u : AppliedShard). u.entries) is
list_index (t ∷ ts) (suc i) s below is = list_index ts i s (let w : i < length ts = omega (arith, below) in w) is

-- ---- what is seen of all shards

abbrev pub view_of : List AppliedShard → ℕ → AppliedParts
view_of ss commits = record { shards = length ss; commits = commits; lists = entries_of ss; counts = applied_of ss }

module _ (ss : List AppliedShard) (commits i : ℕ) (d s : AppliedShard) (r : Result (Unit {0}) AllocError) (now : AppliedParts)
    (below : i < length ss) (entries : s.entries ≡ (get_or ss i d).entries) (view : view_of ss commits ≡ now) where
  -- where one more entry of a shard is applied
  pub one_applied : OnOk r (s.applied ≡ (get_or ss i d).applied + 1)
      → OnOk r (view_of (set ss i s) commits ≡ record now { counts = raised_at i (count_of now.counts i + 1) now.counts })
  one_applied = by r where
    by : (r : Result (Unit {0}) AllocError) → OnOk r (s.applied ≡ (get_or ss i d).applied + 1)
        → OnOk r (view_of (set ss i s) commits ≡ record now { counts = raised_at i (count_of now.counts i + 1) now.counts })
    by (Ok x) is =
        (λ j. record {
          shards = length-set ss i s j;
          commits = commits;
          lists = entries_kept ss i d s entries j;
          counts = applied_raised ss i d s below is j;
        })
        ∙ ap (λ (p : AppliedParts). record p { counts = raised_at i (count_of p.counts i + 1) p.counts }) view
    by (Err x) is = tt

  -- where none is
  pub none_applied : OnErr r (s.applied ≡ (get_or ss i d).applied) → OnErr r (view_of (set ss i s) commits ≡ now)
  none_applied = by r where
    by : (r : Result (Unit {0}) AllocError) → OnErr r (s.applied ≡ (get_or ss i d).applied) → OnErr r (view_of (set ss i s) commits ≡ now)
    by (Ok x) is = tt
    by (Err x) is =
        (λ j. record {
          shards = length-set ss i s j;
          commits = commits;
          lists = entries_kept ss i d s entries j;
          counts = map-set_same
              (λ (t : AppliedShard). t.applied) ss i s d is j;
        })
        ∙ view
