-- What follows of a count that one failure raised.
use Rattle.std.specs.Prelude.{ℕ}
use Rattle.std.proofs.Common.{arith}
use Rattle.std.proofs.lemmas.Grind.{common_steps}
use Rattle.ds_io.specs.Faults.{next_count, Rose}

-- one more fault is a rise
pub Rose-next_count : (old : ℕ) → Rose old (next_count old)
Rose-next_count old = grind (arith, common_steps)
