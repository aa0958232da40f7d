use Rattle.json.specs.Print.{escape_byte}
use Rattle.ds_reply.proofs.results.write_projection.Goals as goal

pub returns : goal.returns
unfolding escape_byte
returns g c =
    let j = g.met.O.Output.joined in
    let mid = rw c.as_slice.ensures at c.write_projected.ensures in
    j _ _ _ _ _ c.put.ensures (j _ _ _ _ _ c.write_key.ensures (j _ _ _ _ _ c.put-2.ensures (j _ _ _ _ _ mid c.put-3.ensures)))
