use Rattle.ds_machine.proofs.ToldPlans.{read-told}
use Rattle.ds_machine.proofs.state.State.get_reached.Goals as goal

pub returns-clause-told : goal.returns-clause-told
returns-clause-told c = read-told _ _ _ _ _ c.args.read c.requires.place c.requires.place
