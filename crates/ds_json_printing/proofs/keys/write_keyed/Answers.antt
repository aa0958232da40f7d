use Rattle.ds_json_printing.proofs.Chains.{keyed-default, keyed-other}
use Rattle.ds_json_printing.proofs.keys.write_keyed.Goals as goal

pub returns-then-is_empty : goal.returns-then-is_empty
returns-then-is_empty g c =
    let test = rw c.bytes.ensures.value at c.is_empty.ensures in
    let same = keyed-default c.args.namespace.now c.args.elems.now c.is_empty.result test c.if-is_empty.true in
    rw same at c.write_elems.ensures

pub returns-else-is_empty : goal.returns-else-is_empty
returns-else-is_empty g c =
    let j = g.met.O.Output.joined in
    let test = rw c.bytes.ensures.value at c.is_empty.ensures in
    let same = keyed-other c.args.namespace.now c.args.elems.now c.is_empty.result test c.if-is_empty.false in
    rw same at (j _ _ _ _ _ c.write_text.ensures c.write_elems-else-is_empty.ensures)
