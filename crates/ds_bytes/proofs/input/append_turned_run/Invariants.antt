-- What is found in the bytes that are left is found behind those that have been passed.
use Rattle.std.proofs.Common.{◌≡◌, ℕ, ◌+◌, ◌++◌, length, take}
use Rattle.ds_lanes.specs.Kernels.{first_zero, complement}
use Rattle.ds_bytes.proofs.input.append_turned_run.Given as goal

abbrev pub invariant-loop-rest : goal.invariant-loop-rest
invariant-loop-rest l = record {
  first : first_zero (complement l.bytes) ≡ l.run + first_zero (complement l.rest);
  so_far : (n : ℕ) → l.text.items ++ take n (complement l.rest) ≡ l.initial.text.items ++ take (l.run + n) (complement l.bytes);
  long : l.run + length l.rest ≡ length l.bytes;
}

abbrev pub decreases-loop-rest : goal.decreases-loop-rest
decreases-loop-rest l = length l.rest
