use Rattle.std.proofs.Common.{◌≡◌, ◌<◌, ◌≤◌, length, ap, refl, sym, ◌∙◌, subst, arith}
use Rattle.std.specs.List.{insert}
use Rattle.std.specs.List.{AllByRecursion as Each}
use Rattle.ds_table.specs.Heads.{Shares, heads_of}
use Rattle.ds_table.proofs.Lists.{all_then, each_insert}
use Rattle.ds_table.proofs.Heads.{alike_by, heads_insert, heads_long}
use Rattle.ds_table.proofs.rows.Rows.insert.Goals as goal

pub settle-requires : goal.settle-requires
settle-requires c =
    let b = c.self.inside in
    let s = c.shared_with-shared.result in
    let e = c.as_slice.ensures.value ∙ sym c.as_slice-2.ensures.value in
    record {
      long = subst (Each (λ r. s ≤ length r)) e (all_then (Shares s c.bytes.result.now) (λ r. s ≤ length r) (λ r g. g.long) c.as_slice.result.now c.shared_with-shared.ensures.alike);
      headed = c.self.invariant.headed ∙ ap (heads_of b.shared) (sym c.as_slice-2.ensures.value);
    }

pub insert-requires-2 : goal.insert-requires-2
insert-requires-2 c =
    let b = c.self.inside in
    let s = c.shared_with-shared.result in
    let n = heads_long s b.rows.items in
    let h = ap length (c.settle.ensures.headed ∙ ap (heads_of s) c.as_slice-2.ensures.value) in
    omega (arith, c.requires.place, n, h, ap length c.self.view_is, c.settle.new.heads.ok.0)

pub invariant_of-self : goal.invariant_of-self
invariant_of-self c =
    let b = c.self.inside in
    let inv = c.self.invariant in
    let row = c.args.row in
    let i = c.args.i in
    let s = c.shared_with-shared.result in
    let sh : Each (Shares s row) b.rows.items = subst (λ x. Each (Shares s x) b.rows.items) c.bytes.ensures
    (subst (Each (Shares s c.bytes.result.now)) c.as_slice.ensures.value c.shared_with-shared.ensures.alike) in
    let own : Shares s row row = record { long = subst (λ x. s ≤ length x) c.bytes.ensures c.shared_with-shared.ensures.long; same = refl } in
    let h : c.settle.new.heads.items ≡ heads_of s b.rows.items = c.settle.ensures.headed ∙ ap (heads_of s) c.as_slice-2.ensures.value in
    let few : length b.rows.items < 256 = omega (arith, c.requires.room, ap length c.self.view_is) in
    let n = heads_long s b.rows.items in
    let r = rw (c.insert.ensures.succeeds (omega (arith, few, b.rows.ok.0, inv.rows_fit))) at c.insert.ensures.items in
    let f = rw (c.insert-2.ensures.succeeds (omega (arith, few, n, ap length h, c.settle.new.heads.ok.0, c.settle.ensures.room, inv.heads_fit))) at c.insert-2.ensures.items in
    let g = c.head_of-head.ensures in
    record {
      alike = rw r (alike_by s row (insert b.rows.items i row) (each_insert (Shares s row) i b.rows.items row own sh));
      headed = rw (f, r, g, c.bytes-2.ensures, h) (sym (heads_insert s i b.rows.items row));
      rows_fit = omega (arith, inv.rows_fit, c.insert.ensures.capacity);
      heads_fit = omega (arith, inv.heads_fit, c.insert-2.ensures.capacity, c.settle.ensures.room);
    }

pub returns : goal.returns
returns c =
    let b = c.self.inside in
    let few : length b.rows.items < 256 = omega (arith, c.requires.room, ap length c.self.view_is) in
    let r = rw (c.insert.ensures.succeeds (omega (arith, few, b.rows.ok.0, c.self.invariant.rows_fit))) at c.insert.ensures.items in
    rw (← c.self.view_is) r
