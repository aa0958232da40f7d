-- The product so far and the factors that are left give the whole.
use Rattle.std.proofs.Common.{◌≡◌, ◌*◌, ◌≤◌, min, map, drop}
use Rattle.ds_base.specs.Limits.{greatest_told}
use Rattle.ds_rows.specs.Counts.{product, column_count}
use Rattle.ds_rows.proofs.count.combinations.Given as goal

abbrev pub invariant-loop-column : goal.invariant-loop-column
invariant-loop-column l = record {
  so_far : min (l.count * product (map (λ c. column_count l.entity c.name) (drop l.column-index l.columns))) greatest_told
      ≡ min (product (map (λ c. column_count l.entity c.name) l.columns)) greatest_told;
  told : l.count ≤ greatest_told;
}
