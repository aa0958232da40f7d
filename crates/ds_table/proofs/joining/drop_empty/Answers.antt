use Rattle.std.proofs.Common.{arith}
use Rattle.ds_table.proofs.Spacing.{one_filled, filled_unless_one}
use Rattle.ds_table.proofs.joining.drop_empty.Goals as goal
use Rattle.ds_table.proofs.joining.drop_empty.Goals.{else-len-eq1-via-then-len-eq1+else-len-eq0, else-len-eq1-via-else-len-eq1}

pub returns-else-len-eq1-clause-filled : goal.returns-else-len-eq1-clause-filled
returns-else-len-eq1-clause-filled c =
    let bs = c.args.blocks.now in
    elim c.else-len-eq1.branch [
      | else-len-eq1-via-then-len-eq1+else-len-eq0 w ↦
          one_filled bs.items w.index.result.now (omega (arith, w.if-len-eq1.true, c.len.ensures, bs.ok.0)) w.index.ensures (omega (arith, w.if-len-eq0.false, w.len-then-len-eq1.ensures.value))
      | else-len-eq1-via-else-len-eq1 w ↦
          filled_unless_one bs.items c.requires (λ n. absurd (omega (arith, n, w.if-len-eq1.false, c.len.ensures, bs.ok.0)))
    ]
