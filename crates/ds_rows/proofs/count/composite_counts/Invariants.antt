-- The sum so far, or the greatest number.
use Rattle.std.proofs.Common.{◌≡◌, ◌+◌, min, cond, take}
use Rattle.std.specs.Prelude.{sum_by}
use Rattle.ds_base.specs.Limits.{greatest_told}
use Rattle.ds_rows.specs.IndexedValues.{kind_in}
use Rattle.ds_rows.specs.Counts.{composite_count}
use Rattle.ds_rows.proofs.count.composite_counts.Given as goal

abbrev pub invariant-loop-def : goal.invariant-loop-def
invariant-loop-def l =
    l.count ≡ min (0 + sum_by (λ d. cond (kind_in d.kind l.entity.key) (composite_count l.entity d) 0)
    (take l.def-index l.defs)) greatest_told
