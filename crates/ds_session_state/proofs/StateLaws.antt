-- From the parts that a method works on to the session that it began with.
use Rattle.std.proofs.Common.{◌≡◌, ℕ, ◌≤◌, List, ◌++◌, ap, sym, ◌∙◌, subst, Option, None, Bool, false}
use Rattle.std.specs.Prelude.{Result, IsTrue}
use Rattle.ds_indexdef.specs.declared.IndexDef.{IndexDef}
use Rattle.ds_request.specs.declared.call.Call.{Call}
use Rattle.ds_request.specs.declared.call.Request.{Request}
use Rattle.ds_reply.specs.declared.reply.Body.{Body}
use Rattle.ds_reply.specs.Replies.{reply_text}
use Rattle.ds_model.specs.Refusals.{refusal_of}
use Rattle.ds_model.specs.Sessions.{Session}
use Rattle.ds_protocol.specs.Saying.{no_memory_reply}
use Rattle.ds_store.specs.Passes.{PassParts, HasRead}
use Rattle.ds_session_state.specs.Answering.{HasSaid}
use Rattle.ds_session_state.specs.Refusing.{IsRefusedWith}
use Rattle.ds_session_state.specs.Replying.{HasReplied, request_of}
use Rattle.ds_session_state.specs.Sessions.{IsWithin, SessionParts}
use Rattle.ds_session_state.proofs.GrowthLaws.{grown_by_reading}
use Rattle.ds_session_state.proofs.LaterReplies.{replied_from}
use Rattle.ds_session_state.proofs.ReplyLaws.{replied, replied_no_memory, replied_refusal}
use Rattle.ds_session_state.proofs.SeeingLaws.{within_later}

-- the parts that a method works on are within their pass, and stay so once it has read
pub within_parts : (before now : SessionParts) → now ≡ before → IsWithin before.seen before.pass → IsWithin now.seen now.pass
within_parts before now same = subst (λ (v : SessionParts). IsWithin v.seen v.pass) (sym same)

pub within_read : (before now : SessionParts) (q : PassParts) → now ≡ before → IsWithin before.seen before.pass → HasRead now.pass q
    → IsWithin now.seen q
within_read before now q same within h =
    within_later now.seen now.pass q (grown_by_reading now.pass q h) (within_parts before now same within)

-- nor do they refuse what the session doesn't refuse
pub unrefused_parts : (definitions : List IndexDef) (before now : SessionParts) (call : Call) → now ≡ before
    → refusal_of definitions before.seen call ≡ None → refusal_of definitions now.seen call ≡ None
unrefused_parts definitions before now call same unrefused =
    ap (λ (v : SessionParts). refusal_of definitions v.seen call) same ∙ unrefused

module _ (definitions : List IndexDef) (shards : ℕ) (window : Option ℕ) (before now after : SessionParts) (same : now ≡ before) (number : ℕ)
    (read : Result Request (ℕ × Body)) (kept : ℕ) where
  -- this was said, which leaves the client so, and stands behind the text
  pub told_from : (said : Body) (later : Session) → HasSaid definitions shards window now.pass after.pass now.seen later read said
      → after.seen ≡ later → after.client ≡ now.client
      → after.text ≡ now.text ++ reply_text (record { client = now.client; line = number; body = said }) → kept ≤ after.room
      → HasReplied definitions shards window before after number read kept
  told_from said later holds seen client text room =
      subst (λ (v : SessionParts). HasReplied definitions shards window v after number read kept) same
      (replied definitions shards window now after number read kept said client
      (subst (λ (s : Session). HasSaid definitions shards window now.pass after.pass now.seen s read said) (sym seen) holds) text room)

  -- there was no memory: the pass has only read
  pub none_from : IsWithin before.seen before.pass → after.client ≡ now.client → after.seen ≡ now.seen → HasRead now.pass after.pass
      → after.text ≡ now.text ++ reply_text (no_memory_reply now.client number) → kept ≤ after.room
      → HasReplied definitions shards window before after number read kept
  none_from within client seen h text room =
      subst (λ (v : SessionParts). HasReplied definitions shards window v after number read kept) same
      (replied_no_memory definitions shards window now after number read kept client seen h (within_parts before now same within) text
      room)

  -- a refusal, or that there was no memory to tell it
  pub refused_from : (refusal : Body) (told : Bool) → IsWithin before.seen before.pass
      → IsRefusedWith definitions shards before.seen read refusal
      → after.client ≡ now.client → after.seen ≡ now.seen → after.pass ≡ now.pass
      → (IsTrue told → after.text ≡ now.text ++ reply_text (record { client = now.client; line = number; body = refusal }))
      → (told ≡ false → after.text ≡ now.text ++ reply_text (no_memory_reply now.client number)) → kept ≤ after.room
      → HasReplied definitions shards window before after number read kept
  refused_from refusal told within is client seen pass text untold room =
      subst (λ (v : SessionParts). HasReplied definitions shards window v after number read kept) same
      (replied_refusal definitions shards window now after number read kept refusal told client seen pass
      (within_parts before now same within)
      (subst (λ (v : SessionParts). IsRefusedWith definitions shards v.seen read refusal) (sym same) is) text untold room)

  -- a reply that is given later, once the session has only read, with whatever room
  pub later_from : (between : SessionParts) → between.client ≡ now.client → between.seen ≡ now.seen → between.text ≡ now.text
      → HasRead now.pass between.pass → HasReplied definitions shards window between after number read kept
      → HasReplied definitions shards window before after number read kept
  later_from between client seen text h last =
      subst (λ (v : SessionParts). HasReplied definitions shards window v after number read kept) same
      (replied_from definitions shards window now between after number read kept client seen text h last)

-- the reply to a call that is answered later, as one of the client's
pub call_from : (definitions : List IndexDef) (shards : ℕ) (window : Option ℕ) (before now after between : SessionParts) → now ≡ before
    → (number : ℕ) (call : Call) (kept : ℕ) → between.client ≡ now.client → between.seen ≡ now.seen → between.text ≡ now.text
    → HasRead now.pass between.pass
    → HasReplied definitions shards window between after number (request_of between.client call) kept
    → HasReplied definitions shards window before after number (request_of before.client call) kept
call_from definitions shards window before now after between same number call kept client seen text h last =
    subst (λ (v : SessionParts). HasReplied definitions shards window v after number (request_of v.client call) kept) same
    (subst (λ n. HasReplied definitions shards window now after number (request_of n call) kept) client
    (replied_from definitions shards window now between after number (request_of between.client call) kept client seen text h last))
