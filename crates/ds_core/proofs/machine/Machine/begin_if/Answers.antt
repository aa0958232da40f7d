use Rattle.ds_core.proofs.Words.{parts, course_of}
use Rattle.ds_core.proofs.Changing.{still-opens}
use Rattle.ds_core.proofs.machine.Machine.begin_if.Goals as goal

pub returns-in-None-clause-opens : goal.returns-in-None-clause-opens
returns-in-None-clause-opens c =
    still-opens c.args.self.now.state.store.shards c.args.client c.args.begins (course_of (parts c.args.self.now)) (λ none. c.in-None.is)
