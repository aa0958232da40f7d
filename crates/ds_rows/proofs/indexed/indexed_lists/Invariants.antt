-- The values of each property so far.
use Rattle.std.proofs.Common.{◌≡◌, take, map}
use Rattle.ds_rows.specs.IndexedValues.{property_values}
use Rattle.ds_rows.proofs.indexed.indexed_lists.Given as goal

abbrev pub invariant-loop-property : goal.invariant-loop-property
invariant-loop-property l = l.lists.items ≡ map property_values (take l.property-index l.properties)
