use Rattle.std.proofs.Common.{length, ap, arith}
use Rattle.ds_table.proofs.Columns.{as_many, version_at}
use Rattle.ds_table.proofs.block.Block.end_after.Goals as goal

pub index-requires : goal.index-requires
index-requires c =
    let b = c.self.inside in
    let long = as_many b.rows b.froms.items b.tos.items c.self.invariant.froms_long c.self.invariant.tos_long in
    omega (arith, c.requires, long, ap length c.self.view_is, b.froms.ok.0, c.self.invariant.froms_long)

pub index-requires-2 : goal.index-requires-2
index-requires-2 c =
    let b = c.self.inside in
    let long = as_many b.rows b.froms.items b.tos.items c.self.invariant.froms_long c.self.invariant.tos_long in
    omega (arith, c.requires, long, ap length c.self.view_is, b.tos.ok.0, c.self.invariant.tos_long)

pub returns : goal.returns
returns c d =
    let b = c.self.inside in
    let long = as_many b.rows b.froms.items b.tos.items c.self.invariant.froms_long c.self.invariant.tos_long in
    let e = version_at c.args.i b.rows b.froms.items b.tos.items d d.row c.index.result.now c.index-2.result.now c.self.invariant.froms_long c.self.invariant.tos_long (omega (arith, c.requires, long, ap length c.self.view_is)) in
    rw (← c.self.view_is, e, ← c.index.ensures, ← c.index-2.ensures) c.kept_end.ensures
