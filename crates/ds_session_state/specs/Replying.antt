-- What one answered line leaves of a session, told of its parts.
use Rattle.std.specs.Prelude.{◌≡◌, ℕ, ◌≤◌, ◌++◌, [], ◌∷◌, false, List, Option, Result, Ok}
use Rattle.ds_indexdef.specs.declared.IndexDef.{IndexDef}
use Rattle.ds_log.specs.declared.Commit.{Commit}
use Rattle.ds_log.specs.declared.Write.{Write}
use Rattle.ds_log.specs.declared.Write.TheVariants.{Put, Delete}
use Rattle.ds_request.specs.declared.call.Call.{Call}
use Rattle.ds_request.specs.declared.call.Call.TheVariants as call
use Rattle.ds_request.specs.declared.call.Request.{Request}
use Rattle.ds_reply.specs.declared.reply.Body.{Body}
use Rattle.ds_reply.specs.Replies.{reply_text}
use Rattle.ds_session_state.specs.Answering.{HasSaid}
use Rattle.ds_session_state.specs.Sessions.{SessionParts}

-- what a client asks
abbrev pub request_of : ℕ → Call → Result Request (ℕ × Body)
request_of client c = Ok (record { client = client; call = c })

-- the request of a write whose key is complete
abbrev pub write_call : Write → Call
write_call (Put e) = call.Put e.key false e.properties
write_call (Delete k) = call.Delete k

-- the commit of one write outside a transaction
abbrev pub own_commit : ℕ → Write → Commit
own_commit client write = record { client = client; touched = []; writes = write ∷ [] }

-- One reply was said to what was read from a line. It stands behind the text, and so many bytes of room are left.
pub record HasReplied (definitions : List IndexDef) (shards : ℕ) (window : Option ℕ) (before after : SessionParts) (number : ℕ)
    (read : Result Request (ℕ × Body)) (kept : ℕ) : Type 0 where
  pub said : Body
  pub client : after.client ≡ before.client
  pub holds : HasSaid definitions shards window before.pass after.pass before.seen after.seen read said
  pub text : after.text ≡ before.text ++ reply_text (record { client = before.client; line = number; body = said })
  pub room : kept ≤ after.room
