use Rattle.std.proofs.Common.{length, ap, arith, add-one}
use Rattle.ds_table.proofs.Columns.{as_many, after_remove}
use Rattle.ds_table.proofs.block.Block.take_out.Goals as goal

pub remove-requires : goal.remove-requires
remove-requires c =
    let b = c.self.inside in
    let long = as_many b.rows b.froms.items b.tos.items c.self.invariant.froms_long c.self.invariant.tos_long in
    omega (arith, c.requires, long, ap length c.self.view_is)

pub remove-from-requires : goal.remove-from-requires
remove-from-requires c =
    let b = c.self.inside in
    let long = as_many b.rows b.froms.items b.tos.items c.self.invariant.froms_long c.self.invariant.tos_long in
    omega (arith, c.requires, long, ap length c.self.view_is, b.froms.ok.0, c.self.invariant.froms_long)

pub remove-to-requires : goal.remove-to-requires
remove-to-requires c =
    let b = c.self.inside in
    let long = as_many b.rows b.froms.items b.tos.items c.self.invariant.froms_long c.self.invariant.tos_long in
    omega (arith, c.requires, long, ap length c.self.view_is, b.tos.ok.0, c.self.invariant.tos_long)

pub returns : goal.returns
returns c =
    let b = c.self.inside in
    rw (← c.self.view_is, c.remove.ensures, c.remove-from.ensures.items, c.remove-to.ensures.items, add-one)
    (after_remove c.args.i b.rows b.froms.items b.tos.items c.self.invariant.froms_long c.self.invariant.tos_long)
