use Rattle.std.proofs.Common.{length, ap, arith}
use Rattle.ds_table.proofs.Columns.{as_many, after_close}
use Rattle.ds_table.proofs.block.Block.close.Goals as goal

pub index_mut-requires : goal.index_mut-requires
index_mut-requires c =
    let b = c.self.inside in
    let long = as_many b.rows b.froms.items b.tos.items c.self.invariant.froms_long c.self.invariant.tos_long in
    omega (arith, c.requires, long, ap length c.self.view_is, b.tos.ok.0, c.self.invariant.tos_long)

pub returns : goal.returns
returns c d =
    let b = c.self.inside in
    let long = as_many b.rows b.froms.items b.tos.items c.self.invariant.froms_long c.self.invariant.tos_long in
    rw (← c.self.view_is) (after_close c.args.i b.rows b.froms.items b.tos.items c.args.stamp d c.self.invariant.froms_long c.self.invariant.tos_long (omega (arith, c.requires, long, ap length c.self.view_is)))
