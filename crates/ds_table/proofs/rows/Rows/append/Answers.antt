use Rattle.std.proofs.Common.{◌+◌, ◌≤◌, length, ap, ◌∙◌, sym, subst, arith}
use Rattle.std.proofs.lemmas.List.{length-append}
use Rattle.std.specs.List.{AllByRecursion as Each}
use Rattle.ds_table.specs.Heads.{IsAlike, heads_of}
use Rattle.ds_table.proofs.Heads.{alike_long, heads_long}
use Rattle.ds_table.proofs.rows.Rows.append.Goals as goal

pub set_heads-requires : goal.set_heads-requires
set_heads-requires c =
    let b = c.self.inside in
    let o = c.other.inside in
    let inv = c.self.invariant in
    let jnv = c.other.invariant in
    let few : length b.rows.items + length o.rows.items ≤ 256 = omega (arith, c.requires, ap length c.self.view_is, ap length c.other.view_is) in
    let s = c.shared_by-shared.result in
    let e = c.as_slice.ensures.value ∙ sym c.as_slice-2.ensures.value in
    let n = ap length inv.headed ∙ heads_long b.shared b.rows.items in
    let m = ap length jnv.headed ∙ heads_long o.shared o.rows.items in
    let r = rw (c.append.ensures.succeeds (omega (arith, few, b.rows.ok.0, o.rows.ok.0, inv.rows_fit))) at c.append.ensures.items in
    let f = rw (c.append-2.ensures.succeeds (omega (arith, few, n, m, b.heads.ok.0, o.heads.ok.0, inv.heads_fit))) at c.append-2.ensures.items in
    let rl = ap length r ∙ length-append b.rows.items o.rows.items in
    let fl = ap length f ∙ length-append b.heads.items o.heads.items in
    record {
      long = subst (Each (λ r. s ≤ length r)) e (alike_long s c.as_slice.result.now c.shared_by-shared.ensures);
      as_many = omega (arith, rl, fl, n, m, ap length c.as_slice-2.ensures.value);
    }

pub invariant_of-self : goal.invariant_of-self
invariant_of-self c =
    let s = c.shared_by-shared.result in
    record {
      alike = subst (IsAlike s) c.as_slice.ensures.value c.shared_by-shared.ensures;
      headed = c.set_heads.ensures.headed ∙ ap (heads_of s) c.as_slice-2.ensures.value;
      rows_fit = omega (arith, c.self.invariant.rows_fit, c.append.ensures.capacity);
      heads_fit = omega (arith, c.self.invariant.heads_fit, c.append-2.ensures.capacity, c.set_heads.ensures.room);
    }

pub returns : goal.returns
returns c =
    let b = c.self.inside in
    let o = c.other.inside in
    let few : length b.rows.items + length o.rows.items ≤ 256 = omega (arith, c.requires, ap length c.self.view_is, ap length c.other.view_is) in
    let r = rw (c.append.ensures.succeeds (omega (arith, few, b.rows.ok.0, o.rows.ok.0, c.self.invariant.rows_fit))) at c.append.ensures.items in
    rw (← c.self.view_is, ← c.other.view_is) r
