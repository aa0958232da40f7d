use Rattle.std.proofs.Common.{length, ap, arith}
use Rattle.ds_table.proofs.Columns.{as_many, after_take, after_drop}
use Rattle.ds_table.proofs.block.Block.split.Goals as goal

pub copy_behind-requires-clause-place : goal.copy_behind-requires-clause-place
copy_behind-requires-clause-place c =
    let b = c.self.inside in
    let inv = c.self.invariant in
    let long = as_many b.rows b.froms.items b.tos.items inv.froms_long inv.tos_long in
    omega (arith, ap length c.as_slice.ensures.value, c.requires, long, ap length c.self.view_is, inv.froms_long)

pub copy_behind-requires-2-clause-place : goal.copy_behind-requires-2-clause-place
copy_behind-requires-2-clause-place c =
    let b = c.self.inside in
    let inv = c.self.invariant in
    let long = as_many b.rows b.froms.items b.tos.items inv.froms_long inv.tos_long in
    omega (arith, ap length c.as_slice-2.ensures.value, c.requires, long, ap length c.self.view_is, inv.tos_long)

pub split-requires-clause-place : goal.split-requires-clause-place
split-requires-clause-place c =
    let b = c.self.inside in
    let long = as_many b.rows b.froms.items b.tos.items c.self.invariant.froms_long c.self.invariant.tos_long in
    omega (arith, c.requires, long, ap length c.self.view_is)

pub returns-clause-parts : goal.returns-clause-parts
returns-clause-parts c =
    let b = c.self.inside in
    let i = c.args.i in
    let inv = c.self.invariant in
    let p = c.in_ok-rows.ensures.parts in (
      rw (← c.self.view_is, p.0, c.truncate.ensures.items, c.truncate-2.ensures.items) (after_take i b.rows b.froms.items b.tos.items inv.froms_long inv.tos_long),
      rw (← c.self.view_is, p.1, c.in_ok-froms.ensures.value, c.in_ok-tos.ensures.value, c.as_slice.ensures.value, c.as_slice-2.ensures.value)
          (after_drop i b.rows b.froms.items b.tos.items inv.froms_long inv.tos_long),
    )
