use Rattle.std.proofs.Common.{◌+◌, take, ap, sym, ◌∙◌, arith}
use Rattle.ds_check.specs.Walks.{asks}
use Rattle.ds_check.proofs.Walking.{asks-more}
use Rattle.ds_check.proofs.steps.asks.Goals as goal

pub loop-step-preserved : goal.loop-step-preserved
loop-step-preserved c = (
  ap (λ n. n + c.asks_one-count.result) c.loop-step.invariant.0
      ∙ ap (λ n. asks (take c.loop-step.step-index c.args.steps.now) + n) c.asks_one-count.ensures.one
      ∙ sym (asks-more c.args.steps.now c.loop-step.step-index c.step-item.result c.loop-step-test.true c.step-item.is),
  let few = c.loop-step.invariant.1 in let most = c.asks_one-count.ensures.most in omega (arith, few, most),
)
