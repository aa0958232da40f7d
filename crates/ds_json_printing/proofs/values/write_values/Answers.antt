use Rattle.ds_json_printing.proofs.Chains.{values-several}
use Rattle.ds_json_printing.proofs.values.write_values.Goals as goal

pub returns-then-values-ne1 : goal.returns-then-values-ne1
returns-then-values-ne1 g c =
    let j = g.met.O.Output.joined in
    rw (values-several c.args.values.now c.if-values-ne1.true) (j _ _ _ _ _ c.put.ensures c.write_items.ensures)
