use Rattle.std.proofs.Common.{◌≡◌, ◌<◌, ◌+◌, ◌-◌, ◌/◌, true, false, [], length, get_or, ap, sym, ◌∙◌, subst, arith, add-one}
use Rattle.std.proofs.lemmas.List.{get_or_read}
use Rattle.ds_table.specs.Heads.{Shares, head_of}
use Rattle.ds_table.specs.Places.{row_before}
use Rattle.ds_table.proofs.Lists.{each_at}
use Rattle.ds_table.proofs.Heads.{heads_at, heads_long, place_last}
use Rattle.ds_table.proofs.Placing.{rising_before, rising_after}
use Rattle.ds_table.proofs.rows.place_among.Goals as goal

pub bounds-heads-middle : goal.bounds-heads-middle
bounds-heads-middle c =
    let n = heads_long c.args.shared c.args.rows.now in
    omega (arith, n, ap length c.requires.headed, c.loop-low.invariant.within, c.loop-low-test.true)

pub returns-then-last_is_before : goal.returns-then-last_is_before
returns-then-last_is_before c = place_last (row_before c.args.row.now c.args.same_too) c.args.rows.now (c.last_is_before.ensures c.if-last_is_before.true)

pub loop-low-preserved-then-is_before_at : goal.loop-low-preserved-then-is_before_at
loop-low-preserved-then-is_before_at c =
    let rs = c.args.rows.now in
    let s = c.args.shared in
    let o = c.args.row.now in
    let m = c.loop-low.low + (c.loop-low.high - c.loop-low.low) / 2 in
    let r = c.index-rows-middle.result in
    let l : m < length rs = omega (arith, c.loop-low.invariant.within, c.loop-low-test.true) in
    let f = c.bytes.ensures ∙ get_or_read rs m r l c.index-rows-middle.is [] in
    let g : Shares s o c.bytes.result.now = subst (Shares s o) (sym f) (each_at (Shares s o) rs m [] l c.requires.alike) in
    let h : get_or c.args.heads.now m 0 ≡ head_of s c.bytes.result.now = ap (λ hs. get_or hs m 0) c.requires.headed ∙ (heads_at s m rs 0 l ∙ ap (head_of s) (sym f)) in
    let is = c.is_before_at.ensures s g h c.head_of-head.ensures in
    let t : row_before o c.args.same_too (get_or rs m r) ≡ true = rw (← c.index-rows-middle.is, ← c.bytes.ensures) (sym is ∙ c.if-is_before_at.true) in
    record {
      ordered = omega (arith, c.loop-low-test.true);
      within = c.loop-low.invariant.within;
      before = rw add-one (rising_before o c.args.same_too rs m r c.requires.rising l t);
      after = c.loop-low.invariant.after;
    }

pub loop-low-preserved : goal.loop-low-preserved
loop-low-preserved c =
    let rs = c.args.rows.now in
    let s = c.args.shared in
    let o = c.args.row.now in
    let m = c.loop-low.low + (c.loop-low.high - c.loop-low.low) / 2 in
    let r = c.index-rows-middle.result in
    let l : m < length rs = omega (arith, c.loop-low.invariant.within, c.loop-low-test.true) in
    let f = c.bytes.ensures ∙ get_or_read rs m r l c.index-rows-middle.is [] in
    let g : Shares s o c.bytes.result.now = subst (Shares s o) (sym f) (each_at (Shares s o) rs m [] l c.requires.alike) in
    let h : get_or c.args.heads.now m 0 ≡ head_of s c.bytes.result.now = ap (λ hs. get_or hs m 0) c.requires.headed ∙ (heads_at s m rs 0 l ∙ ap (head_of s) (sym f)) in
    let is = c.is_before_at.ensures s g h c.head_of-head.ensures in
    let t : row_before o c.args.same_too (get_or rs m r) ≡ false = rw (← c.index-rows-middle.is, ← c.bytes.ensures) (sym is ∙ c.if-is_before_at.false) in
    record {
      ordered = omega (arith, c.loop-low-test.true);
      within = omega (arith, c.loop-low.invariant.within, c.loop-low-test.true);
      before = c.loop-low.invariant.before;
      after = rising_after o c.args.same_too rs m r c.requires.rising l t;
    }
