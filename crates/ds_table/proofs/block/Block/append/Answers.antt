use Rattle.std.proofs.Common.{◌+◌, ◌≤◌, length, ap, ◌∙◌, arith}
use Rattle.std.proofs.lemmas.List.{length-append}
use Rattle.ds_table.proofs.Columns.{as_many, after_append, each_lower}
use Rattle.ds_table.proofs.Lists.{each_append}
use Rattle.ds_table.proofs.block.Block.append.Goals as goal

pub append-requires : goal.append-requires
append-requires c =
    let b = c.self.inside in
    let o = c.other.inside in
    let long = as_many b.rows b.froms.items b.tos.items c.self.invariant.froms_long c.self.invariant.tos_long in
    let other = as_many o.rows o.froms.items o.tos.items c.other.invariant.froms_long c.other.invariant.tos_long in
    omega (arith, c.requires, long, other, ap length c.self.view_is, ap length c.other.view_is)

pub invariant_of-self : goal.invariant_of-self
invariant_of-self c =
    let b = c.self.inside in
    let o = c.other.inside in
    let inv = c.self.invariant in
    let jnv = c.other.invariant in
    let long = as_many b.rows b.froms.items b.tos.items inv.froms_long inv.tos_long in
    let other = as_many o.rows o.froms.items o.tos.items jnv.froms_long jnv.tos_long in
    let few : length b.rows + length o.rows ≤ 256 = omega (arith, c.requires, long, other, ap length c.self.view_is, ap length c.other.view_is) in
    let r = ap length c.append.ensures ∙ length-append b.rows o.rows in
    let f = rw (c.append-2.ensures.succeeds (omega (arith, few, b.froms.ok.0, o.froms.ok.0, inv.froms_long, jnv.froms_long, inv.froms_fit))) at c.append-2.ensures.len in
    let t = rw (c.append-3.ensures.succeeds (omega (arith, few, b.tos.ok.0, o.tos.ok.0, inv.tos_long, jnv.tos_long, inv.tos_fit))) at c.append-3.ensures.len in
    let u = rw (c.append-3.ensures.succeeds (omega (arith, few, b.tos.ok.0, o.tos.ok.0, inv.tos_long, jnv.tos_long, inv.tos_fit))) at c.append-3.ensures.items in
    let m = c.min-self-inside.result in
    record {
      froms_long = omega (arith, r, f, c.append-2.new.self.ok.0, b.froms.ok.0, o.froms.ok.0, inv.froms_long, jnv.froms_long);
      tos_long = omega (arith, r, t, c.append-3.new.self.ok.0, b.tos.ok.0, o.tos.ok.0, inv.tos_long, jnv.tos_long);
      within = omega (arith, r, few);
      not_due = rw u (each_append (λ to. m ≤ to) b.tos.items o.tos.items
          (each_lower m b.due (omega (arith, c.min-self-inside.ensures)) b.tos.items inv.not_due)
          (each_lower m o.due (omega (arith, c.min-self-inside.ensures)) o.tos.items jnv.not_due));
      froms_fit = omega (arith, inv.froms_fit, c.append-2.ensures.capacity);
      tos_fit = omega (arith, inv.tos_fit, c.append-3.ensures.capacity);
    }

pub returns : goal.returns
returns c =
    let b = c.self.inside in
    let o = c.other.inside in
    let inv = c.self.invariant in
    let jnv = c.other.invariant in
    let long = as_many b.rows b.froms.items b.tos.items inv.froms_long inv.tos_long in
    let other = as_many o.rows o.froms.items o.tos.items jnv.froms_long jnv.tos_long in
    let few : length b.rows + length o.rows ≤ 256 = omega (arith, c.requires, long, other, ap length c.self.view_is, ap length c.other.view_is) in
    let f = rw (c.append-2.ensures.succeeds (omega (arith, few, b.froms.ok.0, o.froms.ok.0, inv.froms_long, jnv.froms_long, inv.froms_fit))) at c.append-2.ensures.items in
    let t = rw (c.append-3.ensures.succeeds (omega (arith, few, b.tos.ok.0, o.tos.ok.0, inv.tos_long, jnv.tos_long, inv.tos_fit))) at c.append-3.ensures.items in
    rw (← c.self.view_is, ← c.other.view_is, c.append.ensures, f, t) (after_append b.rows b.froms.items b.tos.items o.rows o.froms.items o.tos.items inv.froms_long inv.tos_long)
