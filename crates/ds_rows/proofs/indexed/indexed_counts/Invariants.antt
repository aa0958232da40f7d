-- The counts of each property so far.
use Rattle.std.proofs.Common.{◌≡◌, take, map}
use Rattle.ds_rows.specs.IndexedValues.{value_count}
use Rattle.ds_rows.proofs.indexed.indexed_counts.Given as goal

abbrev pub invariant-loop-property : goal.invariant-loop-property
invariant-loop-property l = l.counts.items ≡ map value_count (take l.property-index l.properties)
