use Rattle.ds_json_printing.proofs.keys.write_key.Goals as goal

pub returns : goal.returns
returns g c =
    let j = g.met.O.Output.joined in
    let one = rw (c.as_slice.ensures, c.elems.ensures.value, c.namespace.ensures.value) at c.write_keyed.ensures in
    j _ _ _ _ _ c.put.ensures one
