use Rattle.std.proofs.Common.{◌≡◌, ◌+◌, ◌≤◌, ℕ, drop}
use Rattle.ds_table.specs.Heads.{number_behind}
use Rattle.ds_table.proofs.Heads.{filled_behind}
use Rattle.ds_table.proofs.rows.number_at_front.Given as goal

abbrev pub invariant-loop-i : goal.invariant-loop-i
invariant-loop-i l = record {
  fits : (k : ℕ) → l.i + k ≡ 8 → filled_behind l.number k ≤ 18446744073709551615;
  same : (k : ℕ) → l.i + k ≡ 8 → number_behind l.number k (drop l.i l.bytes) ≡ number_behind 0 8 l.bytes;
}
