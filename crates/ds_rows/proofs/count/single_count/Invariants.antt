-- The sum so far, or the greatest number.
use Rattle.std.proofs.Common.{◌≡◌, ◌+◌, ◌*◌, min, take}
use Rattle.std.specs.Prelude.{sum_by}
use Rattle.ds_base.specs.Limits.{greatest_told}
use Rattle.ds_rows.proofs.count.single_count.Given as goal

abbrev pub invariant-loop-values : goal.invariant-loop-values
invariant-loop-values l = l.count ≡ min (1 + sum_by (λ n. 2 * n) (take l.values-index l.counts)) greatest_told
