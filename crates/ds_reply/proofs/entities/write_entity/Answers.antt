use Rattle.json.specs.Print.{escape_byte}
use Rattle.ds_reply.proofs.entities.write_entity.Goals as goal

pub returns : goal.returns
unfolding escape_byte
returns g c =
    let j = g.met.O.Output.joined in
    let key = rw c.key.ensures.value at c.write_key.ensures in
    let mid = rw (c.as_slice.ensures, c.properties.ensures.value) at c.write_properties.ensures in
    j _ _ _ _ _ c.put.ensures (j _ _ _ _ _ key (j _ _ _ _ _ c.put-2.ensures (j _ _ _ _ _ mid c.put-3.ensures)))
