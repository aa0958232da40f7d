-- A reply that is given once the session has only read, with whatever room, is one of the session before.
use Rattle.std.proofs.Common.{◌≡◌, ℕ, List, ◌++◌, ap, ◌∙◌, subst, Option}
use Rattle.std.specs.Prelude.{Result}
use Rattle.ds_indexdef.specs.declared.IndexDef.{IndexDef}
use Rattle.ds_request.specs.declared.call.Request.{Request}
use Rattle.ds_reply.specs.declared.reply.Body.{Body}
use Rattle.ds_reply.specs.Replies.{reply_text}
use Rattle.ds_model.specs.Sessions.{Session}
use Rattle.ds_store.specs.Passes.{HasRead}
use Rattle.ds_session_state.specs.Answering.{HasSaid}
use Rattle.ds_session_state.specs.Replying.{HasReplied}
use Rattle.ds_session_state.specs.Sessions.{SessionParts}
use Rattle.ds_session_state.proofs.SayingLaws.{said_after}

module _ (definitions : List IndexDef) (shards : ℕ) (window : Option ℕ) (before now after : SessionParts) (number : ℕ)
    (read : Result Request (ℕ × Body)) (kept : ℕ) where
  pub replied_from : now.client ≡ before.client → now.seen ≡ before.seen → now.text ≡ before.text → HasRead before.pass now.pass
      → HasReplied definitions shards window now after number read kept
      → HasReplied definitions shards window before after number read kept
  replied_from client seen text h last = record {
    said = last.said;
    client = last.client ∙ client;
    holds = subst (λ (s : Session). HasSaid definitions shards window before.pass after.pass s after.seen read last.said) seen
        (said_after definitions shards window before.pass now.pass after.pass now.seen after.seen read last.said h last.holds);
    text = last.text ∙ ap (λ (t : List ℕ). t ++ reply_text (record { client = now.client; line = number; body = last.said })) text
        ∙ ap (λ c. before.text ++ reply_text (record { client = c; line = number; body = last.said })) client;
    room = last.room;
  }
