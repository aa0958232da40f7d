-- From what was said to the reply that was written.
use Rattle.std.proofs.Common.{◌≡◌, ℕ, ◌≤◌, ◌⊎◌, inl, inr, List, ◌++◌, refl, sym, subst, Bool, true, false, Option}
use Rattle.std.specs.Prelude.{Result, IsTrue}
use Rattle.ds_indexdef.specs.declared.IndexDef.{IndexDef}
use Rattle.ds_request.specs.declared.call.Request.{Request}
use Rattle.ds_reply.specs.declared.reply.Body.{Body}
use Rattle.ds_reply.specs.declared.reply.Body.TheVariants as body
use Rattle.ds_reply.specs.Replies.{reply_text}
use Rattle.ds_model.specs.Answers.{AskedAnswers}
use Rattle.ds_protocol.specs.Saying.{no_memory_reply}
use Rattle.ds_store.specs.Passes.{PassParts, HasRead}
use Rattle.ds_session_state.specs.Answering.{HasSaid}
use Rattle.ds_session_state.specs.Refusing.{IsRefusedWith}
use Rattle.ds_session_state.specs.Replying.{HasReplied}
use Rattle.ds_session_state.specs.Sessions.{IsWithin, SessionParts, world_seen}
use Rattle.ds_session_state.proofs.GrowthLaws.{read_itself}
use Rattle.ds_session_state.proofs.SayingLaws.{said_after, said_no_memory, said_refusal}

module _ (definitions : List IndexDef) (shards : ℕ) (window : Option ℕ) (before after : SessionParts) (number : ℕ)
    (read : Result Request (ℕ × Body)) (kept : ℕ) where
  -- this was said, and stands behind the text
  pub replied : (said : Body) → after.client ≡ before.client
      → HasSaid definitions shards window before.pass after.pass before.seen after.seen read said
      → after.text ≡ before.text ++ reply_text (record { client = before.client; line = number; body = said }) → kept ≤ after.room
      → HasReplied definitions shards window before after number read kept
  replied said client holds text room = record { said = said; client = client; holds = holds; text = text; room = room }

  -- there was no memory: the pass has only read
  pub replied_no_memory : after.client ≡ before.client → after.seen ≡ before.seen → HasRead before.pass after.pass
      → IsWithin before.seen before.pass
      → after.text ≡ before.text ++ reply_text (no_memory_reply before.client number) → kept ≤ after.room
      → HasReplied definitions shards window before after number read kept
  replied_no_memory client seen h within text room =
      replied body.NoMemory client
      (subst (λ s. HasSaid definitions shards window before.pass after.pass before.seen s read body.NoMemory) (sym seen)
      (said_no_memory definitions shards window before.pass after.pass before.seen read h within)) text room

  -- a refusal, or that there was no memory to tell it
  pub replied_refusal : (refusal : Body) (told : Bool) → after.client ≡ before.client → after.seen ≡ before.seen → after.pass ≡ before.pass
      → IsWithin before.seen before.pass → IsRefusedWith definitions shards before.seen read refusal
      → (IsTrue told → after.text ≡ before.text ++ reply_text (record { client = before.client; line = number; body = refusal }))
      → (told ≡ false → after.text ≡ before.text ++ reply_text (no_memory_reply before.client number)) → kept ≤ after.room
      → HasReplied definitions shards window before after number read kept
  replied_refusal refusal false client seen pass within is text untold room =
      replied_no_memory client seen (subst (HasRead before.pass) (sym pass) (read_itself before.pass)) within (untold refl) room
  replied_refusal refusal true client seen pass within is text untold room =
      by (is.answers (world_seen definitions shards window before.pass) refl) where
        by : ((refusal ≡ body.NoMemory)
            ⊎ AskedAnswers (world_seen definitions shards window before.pass) before.seen read refusal before.seen)
            → HasReplied definitions shards window before after number read kept
        by (inl none) =
            replied_no_memory client seen (subst (HasRead before.pass) (sym pass) (read_itself before.pass)) within
            (subst (λ b. after.text ≡ before.text ++ reply_text (record { client = before.client; line = number; body = b })) none
            (text refl)) room
        by (inr answers) =
            replied refusal client
            (subst (λ s. HasSaid definitions shards window before.pass after.pass before.seen s read refusal) (sym seen)
            (subst (λ q. HasSaid definitions shards window before.pass q before.seen before.seen read refusal) (sym pass)
            (said_refusal definitions shards window before.pass before.pass before.seen read refusal is.quiet (read_itself before.pass)
            within answers)))
            (text refl) room

-- earlier calls, which committed and drew nothing
pub replied_after : (definitions : List IndexDef) (shards : ℕ) (window : Option ℕ) (before after : SessionParts) (q : PassParts)
    (number : ℕ)
    (read : Result Request (ℕ × Body)) (kept : ℕ) → HasRead before.pass q
    → HasReplied definitions shards window (record before { pass = q }) after number read kept
    → HasReplied definitions shards window before after number read kept
replied_after definitions shards window before after q number read kept h last = record {
  said = last.said;
  client = last.client;
  holds = said_after definitions shards window before.pass q after.pass before.seen after.seen read last.said h last.holds;
  text = last.text;
  room = last.room;
}
