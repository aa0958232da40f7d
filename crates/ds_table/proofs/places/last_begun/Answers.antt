use Rattle.std.proofs.Common.{◌≡◌, ◌+◌, false, drop, arith, subst}
use Rattle.std.specs.List.{AllByRecursion as Each}
use Rattle.ds_table.specs.Blocks.{joined}
use Rattle.ds_table.specs.Places.{comes_before}
use Rattle.ds_table.proofs.places.last_begun.Goals as goal

pub returns : goal.returns
returns c =
    let i = c.loop-high.invariant in
    let e : c.loop-high.high ≡ c.loop-high.low + 1 = omega (arith, i.some, c.loop-high-test.false) in
    record {
      within = λ h. omega (arith, i.some, i.within);
      before = i.before;
      after = subst (λ n. Each (λ v. comes_before c.args.row.now false v ≡ false) (joined (drop n c.args.blocks.now))) e i.after;
      begun = λ h d. i.begun d;
    }
