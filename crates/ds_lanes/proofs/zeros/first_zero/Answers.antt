use Rattle.std.proofs.lemmas.Bool.{eqb-true}
use Rattle.ds_lanes.proofs.Found.{first_zero_is, none_zero}
use Rattle.ds_lanes.proofs.zeros.first_zero.Goals as goal

pub returns-clause-value : goal.returns-clause-value
returns-clause-value c =
    let f = c.zero_place.ensures in
    first_zero_is c.args.bytes.now c.zero_place.result f.within f.passed (λ lt. eqb-true _ _ (f.here lt))

pub returns-clause-before : goal.returns-clause-before
returns-clause-before c = none_zero c.args.bytes.now c.zero_place.result c.zero_place.ensures.within c.zero_place.ensures.passed
