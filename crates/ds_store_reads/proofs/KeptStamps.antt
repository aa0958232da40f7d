-- Which stamps a shard keeps.
use Rattle.std.proofs.Common.{◌≡◌, ℕ, ◌+◌, ◌-◌, ◌<◌, ◌≤◌, Bool, true, false, cond, refl, ap, sym, ◌∙◌, arith}
use Rattle.std.specs.Prelude.{IsTrue, ◌&&◌, nat_lt, nat_le}
use Rattle.std.proofs.lemmas.Bool.{leb-true, leb-false, ltb-false, le-leb}
use Rattle.ds_shard.specs.Shards.{ShardParts, floor, keeps}

both : (a b : Bool) → IsTrue (a && b) → IsTrue a × IsTrue b
both true true h = (refl, refl)
both true false h = absurd (cc (h))
both false b h = absurd (cc (h))

pub kept_from : (s : ShardParts) (stamp : ℕ) → IsTrue (keeps s stamp) → floor s ≤ stamp
kept_from s stamp kept = leb-true (floor s) stamp (both (nat_le (floor s) stamp) (nat_le stamp s.count) kept).0

pub kept_to : (s : ShardParts) (stamp : ℕ) → IsTrue (keeps s stamp) → stamp ≤ s.count
kept_to s stamp kept = leb-true stamp s.count (both (nat_le (floor s) stamp) (nat_le stamp s.count) kept).1

and_true : (b : Bool) → (b && true) ≡ b
and_true true = refl
and_true false = refl

below_floor : (s : ShardParts) (stamp : ℕ) → stamp ≤ s.count → keeps s stamp ≡ false → stamp < floor s
below_floor s stamp within gone =
    let low : nat_le (floor s) stamp ≡ false =
    sym (ap (λ b. nat_le (floor s) stamp && b) (le-leb stamp s.count within) ∙ and_true (nat_le (floor s) stamp)) ∙ gone in
    leb-false (floor s) stamp low

-- a stamp that isn't kept any more is a window away from the count
pub gone_by : (s : ShardParts) (stamp : ℕ) → stamp ≤ s.count → keeps s stamp ≡ false → stamp + s.window ≤ s.count
gone_by s stamp within gone = by (nat_lt s.count s.window) refl (below_floor s stamp within gone) where
  by : (b : Bool) → nat_lt s.count s.window ≡ b → stamp < floor s → stamp + s.window ≤ s.count
  by true is below =
      let first : floor s ≡ 0 = ap (λ b. cond b 0 (s.count - s.window + 1)) is in
      absurd (omega (arith, below, first))
  by false is below =
      let first : floor s ≡ s.count - s.window + 1 = ap (λ b. cond b 0 (s.count - s.window + 1)) is in
      let long : s.window ≤ s.count = ltb-false s.count s.window is in
      omega (arith, below, first, long)
