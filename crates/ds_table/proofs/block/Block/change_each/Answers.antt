use Rattle.std.proofs.Common.{◌≡◌, ◌-◌, ◌≤◌, ◌++◌, suc, [], length, take, drop, sym, ◌∙◌, arith, add-one, subst}
use Rattle.std.proofs.lemmas.List.{take_all, drop_all, append-nil}
use Rattle.ds_table.specs.Versions.{RowVersion}
use Rattle.ds_table.specs.Changes.{changed}
use Rattle.ds_table.proofs.Spacing.{change_step}
use Rattle.ds_table.proofs.block.Block.change_each.Goals as goal

pub loop-i-init : goal.loop-i-init
loop-i-init c =
    let xs = c.args.self.now in
    let h : length xs ≤ c.len-i.result = omega (arith, c.len-i.ensures.value) in
    record {
      within = omega (arith, c.len-i.ensures.value);
      same = rw (take_all c.len-i.result xs h, drop_all c.len-i.result xs h) (sym (append-nil xs));
    }

pub loop-i-preserved : goal.loop-i-preserved
loop-i-preserved c =
    let xs = c.args.self.now in
    let s = c.loop-i.self in
    let j = c.loop-i.i - 1 in
    let d : RowVersion = record { row = []; from = 0; to = 0 } in
    let k : c.loop-i.i ≡ suc j = omega (arith, c.loop-i-test.true) in
    let e : s ≡ take (suc j) xs ++ changed c.args.change (drop (suc j) xs) = subst (λ n. s ≡ take n xs ++ changed c.args.change (drop n xs)) k c.loop-i.invariant.same in
    let t = change_step c.args.change xs j d (omega (arith, c.loop-i.invariant.within, c.loop-i-test.true)) in
    record {
      within = omega (arith, c.loop-i.invariant.within);
      same = c.change_one.ensures d ∙ rw (add-one, e) t;
    }

pub returns : goal.returns
returns c =
    let e : c.loop-i.i ≡ 0 = omega (arith, c.loop-i-test.false) in
    subst (λ n. c.loop-i.self ≡ take n c.args.self.now ++ changed c.args.change (drop n c.args.self.now)) e c.loop-i.invariant.same
