use Rattle.std.proofs.Common.{refl, List, ℕ}
use Rattle.ds_entity.specs.declared.entity.Property.{Property}
use Rattle.ds_reply.specs.EntityPrinting.{property_members, property_data}
use Rattle.ds_json_printing.proofs.Chains.{members-more}
use Rattle.ds_reply.proofs.entities.write_properties.Goals as goal

pub loop-property-preserved : goal.loop-property-preserved
loop-property-preserved g c =
    let j = g.met.O.Output.joined in
    let name : Property → List ℕ = λ p. p.name in
    let more = members-more property_members name property_data (λ x xs. refl) c.loop-property.later c.args.properties.now c.loop-property.property-index c.property-item.result c.loop-property-test.true in
    let first = rw c.property-item.is at c.write_text.ensures in
    let second = rw c.property-item.is at c.write_property.ensures in
    λ u h. c.loop-property.invariant u (rw more at (j _ _ _ _ _ c.write_comma.ensures (j _ _ _ _ _ first (j _ _ _ _ _ c.put.ensures (j _ _ _ _ _ second h)))))
