use Rattle.std.proofs.Common.{◌<◌, ◌≤◌, length, ap, ◌∙◌, arith, rules}
use Rattle.ds_table.proofs.Columns.{as_many, after_insert}
use Rattle.ds_table.proofs.Lists.{each_insert}
use Rattle.ds_table.proofs.Spacing.{long_insert}
use Rattle.ds_table.proofs.block.Block.insert.Goals as goal

pub insert-requires : goal.insert-requires
insert-requires c =
    let b = c.self.inside in
    let long = as_many b.rows b.froms.items b.tos.items c.self.invariant.froms_long c.self.invariant.tos_long in
    record {
      place = omega (arith, c.requires.place, long, ap length c.self.view_is);
      room = omega (arith, c.requires.room, long, ap length c.self.view_is);
    }

pub insert-requires-2 : goal.insert-requires-2
insert-requires-2 c =
    let b = c.self.inside in
    let long = as_many b.rows b.froms.items b.tos.items c.self.invariant.froms_long c.self.invariant.tos_long in
    omega (arith, c.requires.place, long, ap length c.self.view_is, b.froms.ok.0, c.self.invariant.froms_long)

pub insert-requires-3 : goal.insert-requires-3
insert-requires-3 c =
    let b = c.self.inside in
    let long = as_many b.rows b.froms.items b.tos.items c.self.invariant.froms_long c.self.invariant.tos_long in
    omega (arith, c.requires.place, long, ap length c.self.view_is, b.tos.ok.0, c.self.invariant.tos_long)

pub invariant_of-self : goal.invariant_of-self
invariant_of-self c =
    let b = c.self.inside in
    let inv = c.self.invariant in
    let long = as_many b.rows b.froms.items b.tos.items inv.froms_long inv.tos_long in
    let few : length b.rows < 256 = omega (arith, c.requires.room, long, ap length c.self.view_is) in
    let r = ap length c.insert.ensures ∙ long_insert b.rows c.args.i c.args.row (omega (arith, c.requires.place, long, ap length c.self.view_is)) in
    let f = rw (c.insert-2.ensures.succeeds (omega (arith, few, b.froms.ok.0, inv.froms_long, inv.froms_fit))) at c.insert-2.ensures.len in
    let t = rw (c.insert-3.ensures.succeeds (omega (arith, few, b.tos.ok.0, inv.tos_long, inv.tos_fit))) at c.insert-3.ensures.len in
    record {
      froms_long = omega (arith, r, f, c.insert-2.new.self.ok.0, b.froms.ok.0, inv.froms_long);
      tos_long = omega (arith, r, t, c.insert-3.new.self.ok.0, b.tos.ok.0, inv.tos_long);
      within = omega (arith, r, few);
      not_due = rw (rw (c.insert-3.ensures.succeeds (omega (arith, few, b.tos.ok.0, inv.tos_long, inv.tos_fit))) at c.insert-3.ensures.items)
          (each_insert (λ to. b.due ≤ to) c.args.i b.tos.items 18446744073709551615 (search rules) inv.not_due);
      froms_fit = omega (arith, inv.froms_fit, c.insert-2.ensures.capacity);
      tos_fit = omega (arith, inv.tos_fit, c.insert-3.ensures.capacity);
    }

pub returns : goal.returns
returns c =
    let b = c.self.inside in
    let inv = c.self.invariant in
    let long = as_many b.rows b.froms.items b.tos.items inv.froms_long inv.tos_long in
    let few : length b.rows < 256 = omega (arith, c.requires.room, long, ap length c.self.view_is) in
    let f = rw (c.insert-2.ensures.succeeds (omega (arith, few, b.froms.ok.0, inv.froms_long, inv.froms_fit))) at c.insert-2.ensures.items in
    let t = rw (c.insert-3.ensures.succeeds (omega (arith, few, b.tos.ok.0, inv.tos_long, inv.tos_fit))) at c.insert-3.ensures.items in
    rw (← c.self.view_is, c.insert.ensures, f, t) (after_insert c.args.i b.rows b.froms.items b.tos.items c.args.row c.args.stamp 18446744073709551615 inv.froms_long inv.tos_long (omega (arith, c.requires.place, long, ap length c.self.view_is)))
