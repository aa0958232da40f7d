use Rattle.std.proofs.Common.{refl}
use Rattle.ds_json_printing.specs.Printing.{elem_items, elem_data}
use Rattle.ds_json_printing.proofs.Chains.{items-more}
use Rattle.ds_json_printing.proofs.keys.write_elems.Goals as goal

pub loop-elem-preserved : goal.loop-elem-preserved
loop-elem-preserved g c =
    let j = g.met.O.Output.joined in
    let more = items-more elem_items elem_data (λ x xs. refl) c.loop-elem.later c.args.elems.now c.loop-elem.elem-index c.elem-item.result c.loop-elem-test.true in
    let one = rw c.elem-item.is at c.write_elem.ensures in
    λ u h. c.loop-elem.invariant u (rw more at (j _ _ _ _ _ c.write_comma.ensures (j _ _ _ _ _ one h)))
