use Rattle.std.proofs.Common.{ap, ◌∙◌, None}
use Rattle.ds_model.specs.Groups.{with_transaction}
use Rattle.ds_session_state.specs.Sessions.{SessionParts}
use Rattle.ds_session.proofs.session.Session.seen.Goals as goal

pub returns : goal.returns
returns g c =
    (λ i. with_transaction None (c.self-inside.view_is i).state.seen)
    ∙ ap (λ (s : SessionParts). with_transaction None s.seen) c.self.view_is
