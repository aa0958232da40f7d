-- Refusals that the line and the session before decide.
use Rattle.std.specs.Prelude.{◌≡◌, ℕ, ◌⊎◌, true, List, Result}
use Rattle.ds_indexdef.specs.declared.IndexDef.{IndexDef}
use Rattle.ds_request.specs.declared.call.Request.{Request}
use Rattle.ds_reply.specs.declared.reply.Body.{Body}
use Rattle.ds_reply.specs.declared.reply.Body.TheVariants as body
use Rattle.ds_model.specs.Answers.{AskedAnswers}
use Rattle.ds_model.specs.Sessions.{Session}
use Rattle.ds_model.specs.Worlds.{World}
use Rattle.ds_protocol.specs.Refused.{is_quiet}

-- whatever the journal, it is said to what was read from the line, and nothing changes; or it means out of memory
pub record IsRefusedWith (definitions : List IndexDef) (shards : ℕ) (s : Session) (read : Result Request (ℕ × Body)) (refusal : Body) :
    Type 0 where
  pub quiet : is_quiet refusal ≡ true
  pub answers : (w : World) → w.definitions ≡ definitions → (refusal ≡ body.NoMemory) ⊎ AskedAnswers w s read refusal s
