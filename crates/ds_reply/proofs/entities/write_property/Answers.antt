use Rattle.json.specs.Print.{escape_byte}
use Rattle.ds_reply.proofs.entities.write_property.Goals as goal

pub returns-else-property : goal.returns-else-property
unfolding escape_byte
returns-else-property g c =
    let j = g.met.O.Output.joined in
    let mid = rw c.as_slice-else-property.ensures at c.write_values-else-property.ensures in
    rw c.if-property.false (j _ _ _ _ _ c.put.ensures (j _ _ _ _ _ mid c.put-else-property.ensures))
