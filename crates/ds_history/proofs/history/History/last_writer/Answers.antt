use Rattle.std.proofs.Common.{◌∙◌, sym}
use Rattle.ds_history.proofs.Numbers.{last_is, none_last}
use Rattle.ds_history.proofs.history.History.last_writer.Goals as goal

pub returns-in-Some : goal.returns-in-Some
returns-in-Some c = c.last_up_to.ensures ∙ last_is c.args.place c.args.group.now c.args.self.now.journal _ c.in-Some.ensures.some

pub returns-in-None : goal.returns-in-None
returns-in-None c = sym (none_last c.args.place c.args.group.now c.args.self.now.journal c.in-None.ensures.none)
