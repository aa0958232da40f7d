use Rattle.ds_reply.proofs.projection.write_value_of.Goals as goal

pub returns : goal.returns
returns g c =
    let j = g.met.O.Output.joined in
    j _ _ _ _ _ c.write_text.ensures (j _ _ _ _ _ c.put.ensures c.write_index_value.ensures)
