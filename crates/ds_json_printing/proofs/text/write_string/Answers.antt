use Rattle.ds_json_printing.proofs.text.write_string.Goals as goal

pub returns : goal.returns
returns g c =
    let j = g.met.O.Output.joined in
    j _ _ _ _ _ c.put.ensures (j _ _ _ _ _ c.write_escaped.ensures c.put-2.ensures)
