use Rattle.std.proofs.Common.{arith}
use Rattle.ds_table.proofs.Heads.{bytes_each, head_decides}
use Rattle.ds_table.proofs.rows.is_before_at.Goals as goal

pub returns : goal.returns
returns c s g a b =
    head_decides s c.args.row.now c.args.own.now c.args.same_too c.args.own_head c.args.head
    (bytes_each c.args.row.now (λ i. omega (arith, c.type_inv.row i))) (bytes_each c.args.own.now (λ i. omega (arith, c.type_inv.own i)))
    g.same a b c.if-own_head-head.false
