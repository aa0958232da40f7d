use Rattle.std.proofs.Common.{arith}
use Rattle.std.proofs.lemmas.Bool.{eqb-false, not-true}
use Rattle.ds_lanes.proofs.Found.{common_prefix_is, same_before}
use Rattle.ds_lanes.proofs.prefixes.common_prefix.Goals as goal

pub returns-then-a-b-clause-value : goal.returns-then-a-b-clause-value
returns-then-a-b-clause-value c =
    let f = c.difference_place.ensures in
    common_prefix_is c.args.a.now c.args.b.now c.difference_place.result f.within (omega (arith, f.within)) f.passed
    (λ in_a in_b. eqb-false _ _ (not-true _ (f.here in_a)))

pub returns-then-a-b-clause-same : goal.returns-then-a-b-clause-same
returns-then-a-b-clause-same c =
    let f = c.difference_place.ensures in
    same_before c.args.a.now c.args.b.now c.difference_place.result f.within (omega (arith, f.within)) f.passed

pub returns-else-a-b-clause-value : goal.returns-else-a-b-clause-value
returns-else-a-b-clause-value c =
    let f = c.difference_place-else-a-b.ensures in
    common_prefix_is c.args.a.now c.args.b.now c.difference_place-else-a-b.result (omega (arith, f.within)) f.within f.passed
    (λ in_a in_b. eqb-false _ _ (not-true _ (f.here in_b)))

pub returns-else-a-b-clause-same : goal.returns-else-a-b-clause-same
returns-else-a-b-clause-same c =
    let f = c.difference_place-else-a-b.ensures in
    same_before c.args.a.now c.args.b.now c.difference_place-else-a-b.result (omega (arith, f.within)) f.within f.passed
