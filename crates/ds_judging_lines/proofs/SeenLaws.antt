-- What is shown keeps a count for each shard.
use Rattle.std.proofs.Common.{◌≡◌, ℕ, zero, suc, ◌≤◌, List, [], ◌∷◌, length, refl, ap, ◌∙◌, arith}
use Rattle.ds_model.specs.Sessions.{Session, greater_counts, raised_at}
use Rattle.ds_judging_lines.specs.Deciding.{IsSession}
use Rattle.ds_judging_lines.specs.declared.turn.Turn.{Turn}

pub greater_length : (cs counts : List ℕ) → length (greater_counts cs counts) ≡ length cs
greater_length [] counts = refl
greater_length (c ∷ cs) [] = refl
greater_length (c ∷ cs) (n ∷ counts) = ap suc (greater_length cs counts)

pub raised_length : (shard count : ℕ) (cs : List ℕ) → length (raised_at shard count cs) ≡ length cs
raised_length shard count [] = refl
raised_length zero count (c ∷ cs) = refl
raised_length (suc shard) count (c ∷ cs) = ap suc (raised_length shard count cs)

pub kept : (t : Turn) (old new : Session) → length new.counts ≡ length old.counts → old.next_id ≤ new.next_id → IsSession t old
    → IsSession t new
kept t old new counts next is = record {
  turn = is.turn;
  own = record { counted = counts ∙ is.own.counted; shown = omega (arith, next, is.own.shown) };
}
