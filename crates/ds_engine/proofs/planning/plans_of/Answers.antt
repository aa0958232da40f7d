use Rattle.std.proofs.Common.{◌∙◌, arith}
use Rattle.ds_engine.proofs.Plans.{missing-step, plans-step}
use Rattle.ds_engine.proofs.planning.plans_of.Goals as goal

pub loop-branch-preserved : goal.loop-branch-preserved
loop-branch-preserved c = record {
  missing = missing-step c.args.defs.now c.args.branches.now c.loop-branch.branch-index c.branch-item.result (omega arith)
      c.branch-item.is c.in_ok-plan.ensures.served ∙ c.loop-branch.invariant.missing;
  planned = plans-step c.args.defs.now c.args.branches.now c.loop-branch.branch-index c.loop-branch.plans.items c.put_plan.new.plans.items
      c.branch-item.result c.in_ok-plan.plan c.loop-branch.invariant.planned c.in_ok-plan.ensures.plan (omega arith)
      c.branch-item.is c.in_ok-put_plan.ensures.ok;
}
