use Rattle.std.proofs.Common.{◌≤◌, length, ap, ◌∙◌, sym, subst, arith}
use Rattle.std.specs.List.{AllByRecursion as Each}
use Rattle.ds_table.specs.Heads.{IsAlike, heads_of}
use Rattle.ds_table.proofs.Heads.{alike_long}
use Rattle.ds_table.proofs.rows.Rows.sharpen.Goals as goal

pub settle-requires : goal.settle-requires
settle-requires c =
    let b = c.self.inside in
    let s = c.shared_by-shared.result in
    let e = c.as_slice.ensures.value ∙ sym c.as_slice-2.ensures.value in
    record {
      long = subst (Each (λ r. s ≤ length r)) e (alike_long s c.as_slice.result.now c.shared_by-shared.ensures);
      headed = c.self.invariant.headed ∙ ap (heads_of b.shared) (sym c.as_slice-2.ensures.value);
    }

pub invariant_of-self : goal.invariant_of-self
invariant_of-self c =
    let s = c.shared_by-shared.result in
    record {
      alike = subst (IsAlike s) c.as_slice.ensures.value c.shared_by-shared.ensures;
      headed = c.settle.ensures.headed ∙ ap (heads_of s) c.as_slice-2.ensures.value;
      rows_fit = c.self.invariant.rows_fit;
      heads_fit = omega (arith, c.self.invariant.heads_fit, c.settle.ensures.room);
    }
