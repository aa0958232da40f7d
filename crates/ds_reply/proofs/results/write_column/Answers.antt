use Rattle.json.specs.Print.{escape_byte}
use Rattle.ds_reply.proofs.results.write_column.Goals as goal

pub returns-then-column : goal.returns-then-column
unfolding escape_byte
returns-then-column g c =
    let j = g.met.O.Output.joined in
    rw c.if-column.true (j _ _ _ _ _ c.put.ensures (j _ _ _ _ _ c.write_text.ensures c.put-then-column.ensures))

pub returns-else-column : goal.returns-else-column
unfolding escape_byte
returns-else-column g c =
    let j = g.met.O.Output.joined in
    rw c.if-column.false (j _ _ _ _ _ c.put.ensures (j _ _ _ _ _ c.write_text.ensures c.put-else-column.ensures))
