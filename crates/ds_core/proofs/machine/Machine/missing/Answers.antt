use Rattle.ds_core.proofs.Words.{shown, moment_of, open_in, parts, session_in}
use Rattle.ds_core.proofs.Changing.{next-none, next-waits}
use Rattle.ds_core.proofs.Waiting.{waiting-due}
use Rattle.ds_core.proofs.machine.Machine.missing.Goals as goal

pub want_of_memory-requires : goal.want_of_memory-requires
want_of_memory-requires c =
    waiting-due c.due.new.self.state c.args.self.now.state.store.shards (moment_of (parts c.args.self.now))
    (session_in (parts c.args.self.now) c.args.client) c.args.client (open_in (parts c.args.self.now) c.args.client) c.in-Some-Reply.plan
    c.due.ensures.shown (rw c.in-Some-Reply.field-0-is at c.in-Some-Reply.ensures.was) (c.requires.waiting c.args.client)

pub returns-in-Some-Waits-clause-step : goal.returns-in-Some-Waits-clause-step
returns-in-Some-Waits-clause-step c =
    next-waits c.due.new.self.state (shown c.args.self.now.state) (session_in (parts c.args.self.now) c.args.client) c.args.client
    (open_in (parts c.args.self.now) c.args.client) c.in-Some-Waits.step c.due.ensures.shown
    (rw c.in-Some-Waits.field-0-is at c.in-Some-Waits.ensures.was)

pub returns-in-None-clause-step : goal.returns-in-None-clause-step
returns-in-None-clause-step c =
    next-none c.due.new.self.state (session_in (parts c.args.self.now) c.args.client) c.args.client
    (open_in (parts c.args.self.now) c.args.client) c.in-None.ensures.was
