-- The columns so far.
use Rattle.std.proofs.Common.{◌≡◌, map, take}
use Rattle.ds_rows.specs.IndexedValues.{column_values}
use Rattle.ds_rows.specs.Ways.{lists_of, directions_of}
use Rattle.ds_rows.proofs.composite.values_in.Given as goal

abbrev pub invariant-loop-column : goal.invariant-loop-column
invariant-loop-column l = record {
  lists : lists_of l.values.items ≡ map (λ c. column_values l.entity c.name) (take l.column-index l.columns);
  directions : directions_of l.values.items ≡ map (λ c. c.descending) (take l.column-index l.columns);
}
