use Rattle.std.proofs.Common.{◌≡◌, ◌+◌, ◌-◌, ◌≤◌, length, ◌∙◌, arith}
use Rattle.ds_scan.proofs.Ends.{end-shorter}
use Rattle.ds_scan.proofs.end.without_greatest.Goals as goal

pub loop-kept-preserved : goal.loop-kept-preserved
loop-kept-preserved c =
    let p = c.args.prefix.now in
    let n = c.loop-kept.kept in
    let within : n ≤ length p = c.loop-kept.invariant.0 in
    let next : n ≡ n - 1 + 1 = omega arith in
    (omega (arith, within), end-shorter p n (n - 1) next within c.if-prefix-kept.true ∙ c.loop-kept.invariant.1)
