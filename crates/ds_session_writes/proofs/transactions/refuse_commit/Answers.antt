use Rattle.std.proofs.Common.{refl, subst}
use Rattle.ds_store.specs.Answered.{IsConflict, WhereConflict}
use Rattle.ds_session_state.proofs.LaterReplies.{replied_from}
use Rattle.ds_session_writes.proofs.transactions.refuse_commit.Goals as goal

pub returns-in-Conflict : goal.returns-in-Conflict
returns-in-Conflict g c = λ p t shards within read inside touched unrefused which.
    c.conflict.ensures p t shards within inside touched unrefused
    (subst (WhereConflict (IsConflict p c.args.state.now.pass t.touched)) c.in-Conflict.is which)

pub returns-in-NoMemory : goal.returns-in-NoMemory
returns-in-NoMemory g c = λ p t shards within read inside touched unrefused which.
    replied_from _ _ _ _ _ _ _ _ _ refl refl refl read (c.say_no_memory.ensures.replied _ _)
