use Rattle.std.proofs.Common.{◌≡◌, false, drop, arith, subst}
use Rattle.std.specs.List.{AllByRecursion as Each}
use Rattle.ds_table.specs.Versions.{RowVersion}
use Rattle.ds_table.specs.Blocks.{joined}
use Rattle.ds_table.specs.Places.{comes_before}
use Rattle.ds_table.proofs.Placing.{joined_drop}
use Rattle.ds_table.proofs.places.block_of.Goals as goal

pub returns-then-begun-eq0 : goal.returns-then-begun-eq0
returns-then-begun-eq0 c =
    let P = λ (v : RowVersion). comes_before c.args.row.now c.args.same_too v ≡ false in
    let a = subst (λ n. Each P (joined (drop n c.args.blocks.now))) c.if-begun-eq0.true c.blocks_begun-begun.ensures.after in
    record {
      within = λ h. h;
      before = tt;
      after = joined_drop P 0 c.args.blocks.now a;
      begun = λ h. absurd (omega (arith, h));
    }
