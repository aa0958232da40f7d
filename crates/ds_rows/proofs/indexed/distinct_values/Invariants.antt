-- Each value so far stands once, in its order.
use Rattle.std.proofs.Common.{◌≡◌, take, [], fold}
use Rattle.std.specs.Prelude.{filter_map}
use Rattle.std.specs.BTreeSet.{insert_key}
use Rattle.ds_base.specs.IndexOrder.{index_value_cmp}
use Rattle.ds_base.specs.Values.{index_of}
use Rattle.ds_rows.proofs.indexed.distinct_values.Given as goal

abbrev pub invariant-loop-value : goal.invariant-loop-value
invariant-loop-value l = l.distinct.keys ≡ fold (insert_key index_value_cmp) [] (filter_map index_of (take l.value-index l.property.values))

abbrev pub invariant-loop-value-2 : goal.invariant-loop-value-2
invariant-loop-value-2 l = l.ascending.items ≡ l.yielded
