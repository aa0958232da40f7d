use Rattle.std.proofs.Common.{[], length, take, drop, get_or, ap, sym, ◌∙◌, arith}
use Rattle.ds_table.specs.Heads.{Shares}
use Rattle.ds_table.proofs.Lists.{each_take, each_drop}
use Rattle.ds_table.proofs.Heads.{alike_by, alike_first, heads_long, heads_take, heads_drop}
use Rattle.ds_table.proofs.rows.Rows.split.Goals as goal

pub copy_behind-requires-clause-place : goal.copy_behind-requires-clause-place
copy_behind-requires-clause-place c =
    let b = c.self.inside in
    let n = ap length c.self.invariant.headed ∙ heads_long b.shared b.rows.items in
    omega (arith, c.requires.place, n, ap length c.as_slice.ensures.value, ap length c.self.view_is)

pub copy_behind-requires-clause-few : goal.copy_behind-requires-clause-few
copy_behind-requires-clause-few c =
    let b = c.self.inside in
    let n = ap length c.self.invariant.headed ∙ heads_long b.shared b.rows.items in
    omega (arith, c.requires.few, n, ap length c.as_slice.ensures.value, ap length c.self.view_is)

pub invariant_of-self-2 : goal.invariant_of-self-2
invariant_of-self-2 c =
    let b = c.self.inside in
    let inv = c.self.invariant in
    let i = c.args.i in
    let first = get_or b.rows.items 0 [] in
    let p = c.in_ok-rows.ensures.parts.0 in
    record {
      alike = rw p (alike_by b.shared first (take i b.rows.items) (each_take (Shares b.shared first) i b.rows.items (alike_first b.shared b.rows.items inv.alike)));
      headed = rw (c.truncate.ensures.items, p, inv.headed) (sym (heads_take b.shared i b.rows.items));
      rows_fit = omega (arith, inv.rows_fit, c.move_behind.ensures.same_room);
      heads_fit = omega (arith, inv.heads_fit, c.truncate.ensures.capacity);
    }

pub invariant_of-rest : goal.invariant_of-rest
invariant_of-rest c =
    let b = c.self.inside in
    let inv = c.self.invariant in
    let i = c.args.i in
    let first = get_or b.rows.items 0 [] in
    let p = c.in_ok-rows.ensures.parts.1 in
    record {
      alike = rw p (alike_by b.shared first (drop i b.rows.items) (each_drop (Shares b.shared first) i b.rows.items (alike_first b.shared b.rows.items inv.alike)));
      headed = rw (c.in_ok-heads.ensures.value, c.as_slice.ensures.value, p, inv.headed) (sym (heads_drop b.shared i b.rows.items));
      rows_fit = c.in_ok-rows.ensures.room;
      heads_fit = c.in_ok-heads.ensures.room;
    }
