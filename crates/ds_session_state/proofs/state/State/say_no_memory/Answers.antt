use Rattle.std.proofs.Common.{refl}
use Rattle.ds_session_state.proofs.GrowthLaws.{read_itself}
use Rattle.ds_session_state.proofs.StateLaws.{none_from}
use Rattle.ds_session_state.proofs.state.State.say_no_memory.Goals as goal

pub returns-clause-replied : goal.returns-clause-replied
returns-clause-replied g c = λ read shards.
    none_from _ _ _ _ _ _ c.self.view_is _ _ _ c.requires.within refl refl (read_itself _) c.tell_no_memory.ensures.told
    c.tell_no_memory.ensures.kept
