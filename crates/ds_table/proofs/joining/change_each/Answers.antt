use Rattle.std.proofs.Common.{◌≡◌, ◌<◌, ◌≤◌, true, [], length, take, get_or, ap, sym, ◌∙◌, arith, add-one, subst}
use Rattle.std.proofs.Math.ListN.{set, length-set}
use Rattle.std.proofs.lemmas.List.{get_or_read, length-append, get_or-set_same}
use Rattle.ds_table.specs.Versions.{RowVersion}
use Rattle.ds_table.specs.Blocks.{EndFrom, joined, IsFit}
use Rattle.ds_table.specs.Changes.{changed}
use Rattle.ds_table.proofs.Lists.{each_append, each_at}
use Rattle.ds_table.proofs.Due.{sooner}
use Rattle.ds_table.proofs.Spacing.{change_next, changed_fewer, joined_set_next, spaced_fit, filled_set}
use Rattle.ds_table.proofs.joining.change_each.Goals as goal

pub overflow_add-count : goal.overflow_add-count
overflow_add-count c =
    let bs = c.loop-i.blocks.items in
    let i = c.loop-i.i in
    let l : i < length bs = omega (arith, c.loop-i.invariant.long, c.loop-i-test.true, c.len-i-end.ensures, c.args.blocks.now.ok.0) in
    let e : c.index_mut.result.now ≡ get_or bs i [] = get_or_read bs i c.index_mut.result.now l c.index_mut.ensures.value [] in
    let n : length c.change_block-own.new.block ≡ length (changed c.args.change (get_or bs i [])) = ap length (c.change_block-own.ensures.changed ∙ ap (changed c.args.change) e) in
    omega (
      arith,
      n,
      c.change_block-own.ensures.count,
      c.loop-i.invariant.counted,
      c.requires,
      changed_fewer c.args.change bs i (joined c.args.blocks.now.items) l c.loop-i.invariant.same,
    )

pub loop-i-preserved : goal.loop-i-preserved
loop-i-preserved c =
    let bs = c.loop-i.blocks.items in
    let i = c.loop-i.i in
    let new = c.change_block-own.new.block in
    let due = c.min-due.result in
    let l : i < length bs = omega (arith, c.loop-i.invariant.long, c.loop-i-test.true, c.len-i-end.ensures, c.args.blocks.now.ok.0) in
    let e : c.index_mut.result.now ≡ get_or bs i [] = get_or_read bs i c.index_mut.result.now l c.index_mut.ensures.value [] in
    let is : new ≡ changed c.args.change (get_or bs i []) = c.change_block-own.ensures.changed ∙ ap (changed c.args.change) e in
    let own : EndFrom due new = sooner c.change_block-own.result.due due new (omega (arith, c.min-due.ensures)) c.change_block-own.ensures.due in
    let was : length (get_or bs i []) ≡ c.len-was.result = omega (arith, ap length (get_or_read bs i c.index.result.now l c.index.ensures []), c.len-was.ensures.value) in
    let fit : c.both-apart.result ≡ true → IsFit (length (get_or bs i [])) (set bs i new) i = λ t.
    subst (λ n. IsFit n (set bs i new) i) (sym was)
    (subst (λ xs. IsFit c.len-was.result xs i) c.as_slice.ensures.value (c.stays_apart-stays.ensures (c.both-apart.ensures.second t))) in
    let before : EndFrom due (joined (take i bs)) = sooner c.loop-i.due due (joined (take i bs)) (omega (arith, c.min-due.ensures)) c.loop-i.invariant.later in
    record {
      long = length-set bs i new ∙ c.loop-i.invariant.long;
      same = rw (add-one, is) (change_next c.args.change bs i l ∙ c.loop-i.invariant.same);
      counted = rw (add-one, joined_set_next bs i new l, length-append) (omega (arith, c.change_block-own.ensures.count, c.loop-i.invariant.counted));
      later = rw (add-one, joined_set_next bs i new l) (each_append (λ (v : RowVersion). due ≤ v.to) (joined (take i bs)) new before own);
      within = omega (arith, c.min-due.ensures, c.loop-i.invariant.within);
      spaced = λ t. spaced_fit bs i new l (fit t) (c.loop-i.invariant.spaced (c.both-apart.ensures.first t));
      filled = λ t.
          let f = c.loop-i.invariant.filled (c.both-apart.ensures.first t) in
          let g = fit t in
          filled_set bs i new f (rw (get_or-set_same bs i new [] l) at (g.some (each_at (λ b. 0 < length b) bs i [] l f)));
    }
