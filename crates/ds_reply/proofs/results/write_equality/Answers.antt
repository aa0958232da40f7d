use Rattle.json.specs.Print.{escape_byte}
use Rattle.ds_reply.proofs.results.write_equality.Goals as goal

pub returns : goal.returns
unfolding escape_byte
returns g c =
    let j = g.met.O.Output.joined in
    j _ _ _ _ _ c.put.ensures (j _ _ _ _ _ c.write_text.ensures (j _ _ _ _ _ c.put-2.ensures (j _ _ _ _ _ c.write_index_value.ensures c.put-3.ensures)))
