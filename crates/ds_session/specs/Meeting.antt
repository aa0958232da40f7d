-- What a session takes of what others have seen.
use Rattle.std.specs.Prelude.{◌≡◌, []}
use Rattle.ds_model.specs.Sessions.{Session}
use Rattle.ds_protocol.specs.Watermarks.{raised_by}
use Rattle.ds_store.specs.Passes.{HasRead}
use Rattle.ds_session_state.specs.Sessions.{SessionParts}

-- A session has taken what this one has seen, and its pass has seen as much. No reply is left from an earlier round.
pub record HasTaken (greatest : Session) (before after : SessionParts) : Type 0 where
  pub client : after.client ≡ before.client
  pub seen : after.seen ≡ raised_by greatest before.seen
  pub read : HasRead before.pass after.pass
  pub text : after.text ≡ []
