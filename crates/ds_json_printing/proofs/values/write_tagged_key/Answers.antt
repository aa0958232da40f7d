use Rattle.json.specs.Print.{escape_byte}
use Rattle.ds_json_printing.proofs.values.write_tagged_key.Goals as goal

pub returns : goal.returns
unfolding escape_byte
returns g c =
    let j = g.met.O.Output.joined in
    j _ _ _ _ _ c.put.ensures (j _ _ _ _ _ c.write_key.ensures c.put-2.ensures)
