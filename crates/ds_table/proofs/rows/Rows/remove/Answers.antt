use Rattle.std.proofs.Common.{[], length, get_or, ap, sym, ◌∙◌, arith}
use Rattle.std.specs.List.{remove}
use Rattle.ds_table.specs.Heads.{Shares}
use Rattle.ds_table.proofs.Lists.{each_remove}
use Rattle.ds_table.proofs.Heads.{alike_by, alike_first, heads_remove, heads_long}
use Rattle.ds_table.proofs.rows.Rows.remove.Goals as goal

pub remove-head-requires : goal.remove-head-requires
remove-head-requires c =
    let b = c.self.inside in
    let n = ap length c.self.invariant.headed ∙ heads_long b.shared b.rows.items in
    omega (arith, c.requires, n, ap length c.self.view_is, b.heads.ok.0)

pub invariant_of-self : goal.invariant_of-self
invariant_of-self c =
    let b = c.self.inside in
    let inv = c.self.invariant in
    let first = get_or b.rows.items 0 [] in
    record {
      alike = rw c.remove-row.ensures.items (alike_by b.shared first (remove b.rows.items c.args.i)
          (each_remove (Shares b.shared first) c.args.i b.rows.items (alike_first b.shared b.rows.items inv.alike)));
      headed = rw (c.remove-row.ensures.items, c.remove-head.ensures.items, inv.headed) (sym (heads_remove b.shared c.args.i b.rows.items));
      rows_fit = omega (arith, inv.rows_fit, c.remove-row.ensures.capacity);
      heads_fit = omega (arith, inv.heads_fit, c.remove-head.ensures.capacity);
    }
