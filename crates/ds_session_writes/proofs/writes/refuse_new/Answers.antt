use Rattle.std.proofs.Common.{refl}
use Rattle.ds_session_state.proofs.LaterReplies.{replied_from}
use Rattle.ds_session_writes.proofs.writes.refuse_new.Goals as goal

pub returns-in-NoMemory : goal.returns-in-NoMemory
returns-in-NoMemory g c = λ p read shards within h said.
    replied_from _ shards _ (record c.args.state.now { pass = p }) c.args.state.now _ _ read _ refl refl refl h
    (c.say_no_memory.ensures.replied read shards)
