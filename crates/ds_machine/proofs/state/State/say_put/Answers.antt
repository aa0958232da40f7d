use Rattle.ds_machine.proofs.state.State.say_put.Goals as goal

pub returns-in-Some-clause-told : goal.returns-in-Some-clause-told
returns-in-Some-clause-told c = c.in-Some.ensures.told _
