use Rattle.ds_machine.proofs.OperationPlans.{always_due}
use Rattle.ds_machine.proofs.ToldPlans.{silent-told}
use Rattle.ds_machine.proofs.state.State.open.Goals as goal

pub returns-in-Err-ready_for-clause-told : goal.returns-in-Err-ready_for-clause-told
returns-in-Err-ready_for-clause-told c =
    silent-told c.args.self.now c.args.session.now c.in-Err-ready_for.plan.body c.in-Err-ready_for.plan.effect
    c.in-Err-ready_for.ensures.refused.silent

pub returns-in-Err-clause-refused : goal.returns-in-Err-clause-refused
returns-in-Err-clause-refused c = always_due _ _ _ _ c.in-Err.refused _ c.body.result _ c.refused.ensures.body c.body.ensures
    c.refused.ensures.effect c.in-Err.ensures.refused
