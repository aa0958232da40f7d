use Rattle.std.proofs.Common.{sym, ◌∙◌}
use Rattle.ds_table.proofs.Columns.{as_many}
use Rattle.ds_table.proofs.block.Block.len.Goals as goal

pub returns-clause-value : goal.returns-clause-value
returns-clause-value c =
    let b = c.self.inside in
    rw (← c.self.view_is) (c.len.ensures ∙ sym (as_many b.rows b.froms.items b.tos.items c.self.invariant.froms_long c.self.invariant.tos_long))
