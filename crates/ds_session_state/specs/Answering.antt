-- What answered lines leave of a session.
use Rattle.std.specs.Prelude.{◌≡◌, ℕ, ◌<◌, ◌≤◌, List, ◌++◌, Option, Result, length, flat_map, All}
use Rattle.ds_indexdef.specs.declared.IndexDef.{IndexDef}
use Rattle.ds_request.specs.declared.call.Request.{Request}
use Rattle.ds_reply.specs.declared.reply.Body.{Body}
use Rattle.ds_reply.specs.declared.reply.Reply.{Reply}
use Rattle.ds_reply.specs.Replies.{replies_text}
use Rattle.ds_rounds.specs.Rounds.{NumberedLine}
use Rattle.ds_model.specs.Answers.{BodyAnswers}
use Rattle.ds_model.specs.Asked.{asked}
use Rattle.ds_model.specs.Legal.{ClientSteps, acknowledged, acknowledged_in, accepted, accepted_in, printed_next, printed_next_in}
use Rattle.ds_model.specs.Legal.{drawn_by, drawn_in}
use Rattle.ds_model.specs.Sessions.{Session}
use Rattle.ds_store.specs.Passes.{PassParts}
use Rattle.ds_session_state.specs.Sessions.{SessionParts, IsWithin, HasGrown, world_seen}

-- This was said to what was read from a line. It is an answer over the journal and the shards' lists that the pass has then seen; the
-- pass's own commits and its draws grow by just those that the reply tells; no accepted id and no printed counter is past the pass's id
-- counter; and the client's transaction and all that it has seen stay within what its pass has seen.
pub record HasSaid (definitions : List IndexDef) (shards : ℕ) (window : Option ℕ) (before after : PassParts) (seen later : Session)
    (read : Result Request (ℕ × Body)) (said : Body) : Type 0 where
  pub answers : BodyAnswers (world_seen definitions shards window after) seen read said later
  pub grown : HasGrown before after
  pub commits : after.commits ≡ before.commits ++ acknowledged_in said
  pub draws : after.draws ≡ before.draws ++ drawn_by read said
  pub accepts : All (λ id. id < after.next) (accepted_in said)
  pub prints : All (λ next. next ≤ after.next) (printed_next_in said)
  pub within : IsWithin later after

-- These lines of the session's client were answered in their order. The replies are steps of the client over the journal and the shards'
-- lists that the pass has then seen, and so over every journal that goes on from these (`GoingOnLaws`; the store's own is one, as its close
-- shows); its text has the replies behind what stood there; its own commits and draws grew by just those that they tell.
pub record HasAnswered (definitions : List IndexDef) (shards : ℕ) (window : Option ℕ) (before after : SessionParts)
    (lines : List NumberedLine) : Type 0 where
  pub replies : List Reply
  pub client : after.client ≡ before.client
  pub grown : HasGrown before.pass after.pass
  pub steps : ClientSteps (asked shards) (world_seen definitions shards window after.pass) before.seen lines replies after.seen
  pub counted : length replies ≡ length lines
  pub printed : after.text ≡ before.text ++ replies_text replies
  pub commits : after.pass.commits ≡ before.pass.commits ++ flat_map acknowledged replies
  pub draws : after.pass.draws ≡ before.pass.draws ++ drawn_in (asked shards) lines replies
  pub accepts : All (λ id. id < after.pass.next) (flat_map accepted replies)
  pub prints : All (λ next. next ≤ after.pass.next) (flat_map printed_next replies)
