use Rattle.ds_machine.proofs.ToldPlans.{deleted-told}
use Rattle.ds_machine.proofs.state.State.say_delete.Goals as goal

pub returns-in-Some-clause-told : goal.returns-in-Some-clause-told
returns-in-Some-clause-told c = deleted-told _ _ _ _ _ _ _ (c.in-Some.ensures.told _)
