use Rattle.std.proofs.Common.{refl}
use Rattle.ds_session_state.proofs.StateLaws.{refused_from}
use Rattle.ds_session_state.proofs.state.State.refuse.Goals as goal

pub returns : goal.returns
returns g c = λ read shards is.
    refused_from _ _ _ _ _ _ c.self.view_is _ _ _ c.args.body c.tell.result c.requires.within is refl refl refl c.tell.ensures.told
    c.tell.ensures.untold c.tell.ensures.kept
