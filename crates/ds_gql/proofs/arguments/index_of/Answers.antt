use Rattle.std.proofs.Common.{◌≡◌, ◌+◌, ◌-◌, drop, arith, refl, subst}
use Rattle.ds_gql.specs.Arguments.{IsIndex}
use Rattle.ds_gql.proofs.IndexLemmas.{index_more}
use Rattle.ds_gql.proofs.arguments.index_of.Goals as goal

pub loop-left-preserved : goal.loop-left-preserved
loop-left-preserved c =
    let names = c.args.names.now in
    let before = c.loop-left.left - 1 in
    let turn : c.loop-left.left ≡ before + 1 = omega (arith, c.loop-left-test.true) in
    let so_far = subst (λ n. IsIndex (drop n names) c.loop-left.index) turn c.loop-left.invariant.1 in (
      omega (arith, c.loop-left.invariant.0),
      index_more names before c.index-names-left.result c.loop-left.index c.insert.new.self c.text.result _ (omega (arith, c.loop-left.invariant.0, c.loop-left-test.true)) c.index-names-left.is c.text.ensures refl c.in_ok-insert.ensures.updates so_far,
    )
