use Rattle.ds_machine.proofs.OperationPlans.{due_asked}
use Rattle.ds_machine.proofs.state.State.due.Goals as goal

pub returns-clause-plan : goal.returns-clause-plan
returns-clause-plan c =
    due_asked c.pull.new.self c.args.session.now c.args.client c.args.work.now.operation c.args.gathered.now
    c.operation_due.result c.operation_due.ensures.plan
