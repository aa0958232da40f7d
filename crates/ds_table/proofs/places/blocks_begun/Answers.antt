use Rattle.std.proofs.Common.{◌≡◌, ◌+◌, ◌-◌, ◌/◌, ◌<◌, true, false, [], length, take, get_or, arith, subst}
use Rattle.std.proofs.lemmas.List.{get_or_read}
use Rattle.std.specs.List.{AllByRecursion as Each}
use Rattle.ds_table.specs.Versions.{RowVersion}
use Rattle.ds_table.specs.Blocks.{joined}
use Rattle.ds_table.specs.Places.{comes_before}
use Rattle.ds_table.proofs.Placing.{blocks_before, blocks_after}
use Rattle.ds_table.proofs.places.blocks_begun.Goals as goal

pub loop-low-preserved-then-is_before_row : goal.loop-low-preserved-then-is_before_row
loop-low-preserved-then-is_before_row c =
    let o = c.args.row.now in
    let s = c.args.same_too in
    let bs = c.args.blocks.now in
    let m = c.loop-low.low + (c.loop-low.high - c.loop-low.low) / 2 in
    let l : m < length bs = omega (arith, c.loop-low.invariant.within, c.loop-low-test.true) in
    let t : (d : RowVersion) → comes_before o s (get_or (get_or bs m []) 0 d) ≡ true = λ d. rw (← get_or_read bs m c.index-blocks-middle.result l c.index-blocks-middle.is [], ← c.row.ensures d, ← c.is_before_row.ensures) c.if-is_before_row.true in
    let d : RowVersion = record { row = []; from = 0; to = 0 } in
    record {
      ordered = omega (arith, c.loop-low-test.true);
      within = c.loop-low.invariant.within;
      before = λ k e. let q : m ≡ k = omega (arith, e) in
          subst (λ x. Each (λ v. comes_before o s v ≡ true) (joined (take x bs))) q (blocks_before o s bs m d c.requires.ordered c.requires.filled l (t d));
      begun = λ k e d. let q : m ≡ k = omega (arith, e) in subst (λ x. comes_before o s (get_or (get_or bs x []) 0 d) ≡ true) q (t d);
      after = c.loop-low.invariant.after;
    }

pub loop-low-preserved : goal.loop-low-preserved
loop-low-preserved c =
    let o = c.args.row.now in
    let s = c.args.same_too in
    let bs = c.args.blocks.now in
    let m = c.loop-low.low + (c.loop-low.high - c.loop-low.low) / 2 in
    let l : m < length bs = omega (arith, c.loop-low.invariant.within, c.loop-low-test.true) in
    let d : RowVersion = record { row = []; from = 0; to = 0 } in
    let f : comes_before o s (get_or (get_or bs m []) 0 d) ≡ false = rw (← get_or_read bs m c.index-blocks-middle.result l c.index-blocks-middle.is [], ← c.row.ensures d, ← c.is_before_row.ensures) c.if-is_before_row.false in
    record {
      ordered = omega (arith, c.loop-low-test.true);
      within = omega (arith, c.loop-low.invariant.within, c.loop-low-test.true);
      before = c.loop-low.invariant.before;
      begun = c.loop-low.invariant.begun;
      after = blocks_after o s bs m d c.requires.ordered c.requires.filled l f;
    }
