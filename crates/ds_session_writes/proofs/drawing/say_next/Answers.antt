use Rattle.std.proofs.Common.{refl}
use Rattle.ds_session_state.proofs.ReplyLaws.{replied_no_memory}
use Rattle.ds_session_writes.proofs.drawing.say_next.Goals as goal

pub returns-then-not-tell : goal.returns-then-not-tell
returns-then-not-tell g c =
    rw (← c.state.view_is) (λ p read shards within h said.
    replied_no_memory _ shards _ _ _ _ read _ refl refl h within (c.tell.ensures.untold c.if-not-tell.true) c.tell.ensures.kept)
