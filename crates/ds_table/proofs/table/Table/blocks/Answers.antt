use Rattle.ds_table.proofs.Spacing.{few_blocks}
use Rattle.std.proofs.Common.{arith}
use Rattle.ds_table.proofs.table.Table.blocks.Goals as goal

pub returns-clause-few : goal.returns-clause-few
returns-clause-few c =
    let b = c.self.inside.blocks in
    let h = few_blocks b.items c.self.invariant.spaced c.self.invariant.filled in
    rw (← c.self.view_is) (omega (arith, h, c.len.ensures, b.ok.0))
