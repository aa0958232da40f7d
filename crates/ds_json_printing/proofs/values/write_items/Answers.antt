use Rattle.std.proofs.Common.{refl}
use Rattle.ds_json_printing.specs.Printing.{value_items, value_data}
use Rattle.ds_json_printing.proofs.Chains.{items-more}
use Rattle.ds_json_printing.proofs.values.write_items.Goals as goal

pub loop-value-preserved : goal.loop-value-preserved
loop-value-preserved g c =
    let j = g.met.O.Output.joined in
    let more = items-more value_items value_data (λ x xs. refl) c.loop-value.later c.args.values.now c.loop-value.value-index c.value-item.result c.loop-value-test.true in
    let one = rw c.value-item.is at c.write_value.ensures in
    λ u h. c.loop-value.invariant u (rw more at (j _ _ _ _ _ c.write_comma.ensures (j _ _ _ _ _ one h)))
