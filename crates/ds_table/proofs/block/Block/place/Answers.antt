use Rattle.std.proofs.Common.{sym, subst}
use Rattle.ds_table.specs.Blocks.{IsOrdered, versions_of}
use Rattle.ds_table.specs.Places.{IsPlace, IsRising, row_before, comes_before}
use Rattle.ds_table.proofs.Columns.{as_many, rows_in_columns}
use Rattle.ds_table.proofs.Placing.{rising, place_by_rows}
use Rattle.ds_table.proofs.block.Block.place.Goals as goal

pub place-requires : goal.place-requires
place-requires c =
    let b = c.self.inside in
    let o = subst (λ v. IsOrdered v) (sym c.self.view_is) c.requires in
    let e = rows_in_columns b.rows b.froms.items b.tos.items c.self.invariant.froms_long c.self.invariant.tos_long in
    subst IsRising e (rising (versions_of b.rows b.froms.items b.tos.items) o)

pub returns : goal.returns
returns c =
    let b = c.self.inside in
    let vs = versions_of b.rows b.froms.items b.tos.items in
    let e = rows_in_columns b.rows b.froms.items b.tos.items c.self.invariant.froms_long c.self.invariant.tos_long in
    let n = as_many b.rows b.froms.items b.tos.items c.self.invariant.froms_long c.self.invariant.tos_long in
    subst (λ v. IsPlace (comes_before c.args.row.now c.args.same_too) v c.place.result) c.self.view_is
    (place_by_rows (row_before c.args.row.now c.args.same_too) vs b.rows c.place.result e n c.place.ensures)
