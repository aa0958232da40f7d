use Rattle.ds_table.proofs.Due.{columns_later}
use Rattle.ds_table.proofs.block.Block.due.Goals as goal

pub returns : goal.returns
returns c =
    let b = c.self.inside in
    rw (← c.self.view_is) (columns_later b.due b.rows b.froms.items b.tos.items c.self.invariant.not_due)
