use Rattle.std.proofs.Common.{length, ap, sym, ◌∙◌, arith}
use Rattle.ds_table.specs.Versions.{RowVersion}
use Rattle.ds_table.proofs.Columns.{as_many, version_at}
use Rattle.ds_table.proofs.block.Block.row.Goals as goal

pub row-requires : goal.row-requires
row-requires c =
    let b = c.self.inside in
    let long = as_many b.rows b.froms.items b.tos.items c.self.invariant.froms_long c.self.invariant.tos_long in
    omega (arith, c.requires, long, ap length c.self.view_is)

pub returns : goal.returns
returns c d =
    let b = c.self.inside in
    let long = as_many b.rows b.froms.items b.tos.items c.self.invariant.froms_long c.self.invariant.tos_long in
    let i = c.args.i in
    let e = version_at i b.rows b.froms.items b.tos.items d d.row 0 0 c.self.invariant.froms_long c.self.invariant.tos_long (omega (arith, c.requires, long, ap length c.self.view_is)) in
    rw (← c.self.view_is) (c.row.ensures d.row ∙ sym (ap (λ (v : RowVersion). v.row) e))
