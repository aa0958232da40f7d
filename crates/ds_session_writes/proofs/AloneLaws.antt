-- Writes outside a transaction: what the store asks of their commits, and what is said of them.
use Rattle.std.proofs.Common.{◌≡◌, ℕ, ◌+◌, ◌<◌, ◌≤◌, List, [], ◌∷◌, ◌++◌, length, ap, sym, ◌∙◌, subst, arith, true, false}
use Rattle.std.proofs.Common.{Option, Some, None}
use Rattle.std.specs.Prelude.{nat_le, ◌&&◌}
use Rattle.std.specs.List.{list_all}
use Rattle.std.proofs.lemmas.Bool.{and_parts}
use Rattle.std.proofs.lemmas.List.Elements.{All-nil, All-cons}
use Rattle.ds_entity.specs.Entities.{EntityParts}
use Rattle.ds_base.specs.Keys.{KeyParts, ends_in_id, is_elem, is_key, is_namespace, is_path, renumbered}
use Rattle.ds_base.specs.Limits.{greatest_id, most_elements}
use Rattle.ds_indexdef.specs.declared.IndexDef.{IndexDef}
use Rattle.ds_journal.specs.Drafts.{renumbered_commit}
use Rattle.ds_log.specs.declared.Commit.{Commit}
use Rattle.ds_log.specs.declared.Write.{Write}
use Rattle.ds_log.specs.declared.Write.TheVariants.{Put, Delete}
use Rattle.ds_log.specs.Ids.{AreIssued, first_unissued}
use Rattle.ds_log.specs.JournalLaws.{first_unissued-rises}
use Rattle.ds_log.specs.Logs.{key_of}
use Rattle.ds_reply.specs.declared.reply.WriteAt.TheVariants as at
use Rattle.ds_reply.specs.declared.reply.Body.TheVariants as body
use Rattle.ds_reply.specs.Replies.{reply_text}
use Rattle.ds_request.specs.declared.call.Call.TheVariants as call
use Rattle.ds_model.specs.Groups.{with_transaction}
use Rattle.ds_model.specs.Refusals.{refusal_of}
use Rattle.ds_model.specs.Sessions.{Session, Transaction, saw_next, saw_place}
use Rattle.ds_store_passes.specs.declared.answers.NewCause.{NewCause}
use Rattle.ds_store_passes.specs.declared.answers.NewCause.TheVariants as new_cause
use Rattle.ds_store.specs.Answered.{IsAppended, WhereExhausted}
use Rattle.ds_store.specs.Passes.{PassParts, HasRead}
use Rattle.ds_session_state.specs.Answering.{HasSaid}
use Rattle.ds_session_state.specs.Replying.{HasReplied, own_commit, request_of, write_call}
use Rattle.ds_output.specs.Writes.{written_body}
use Rattle.ds_session_state.specs.Sessions.{IsWithin, SessionParts}
use Rattle.ds_session_state.proofs.GrowthLaws.{grown_by_reading}
use Rattle.ds_session_writes.proofs.IdLaws.{delete_unissued, put_exhausted, put_unissued}
use Rattle.ds_session_state.proofs.ReplyLaws.{replied}
use Rattle.ds_session_state.proofs.SayingLaws.{said_after}
use Rattle.ds_session_state.proofs.SeeingLaws.{within_later}
use Rattle.ds_session_writes.proofs.WriteLaws.{delete_committed, put_committed, put_new_committed, saw_commit}
use Rattle.ds_session_writes.proofs.WrittenLaws.{completed_issued}

-- the elements of a key are lawful
pub lawful_path : (k : KeyParts) → is_key k ≡ true → list_all is_elem k.elems ≡ true
lawful_path k is =
    let path = (and_parts (is_namespace k.namespace) (is_path k.elems) is).1 in
    (and_parts (nat_le 1 (length k.elems) && nat_le (length k.elems) most_elements) (list_all is_elem k.elems) path).1

-- ---- what the store asks of a commit

pub new_issued : (client next : ℕ) (e : EntityParts) → first_unissued next e.key.elems ≡ None → (id : ℕ) → next ≤ id
    → AreIssued (id + 1) (renumbered_commit (own_commit client (Put e)) id).writes
new_issued client next e issued id low =
    All-cons (λ w. first_unissued (id + 1) (key_of w).elems ≡ None) (Put (record e { key = renumbered e.key id })) []
    (completed_issued next id e.key.elems low issued)
    (All-nil (λ w. first_unissued (id + 1) (key_of w).elems ≡ None))

-- ---- what is said

module _ (definitions : List IndexDef) (shards : ℕ) (window : Option ℕ) (client : ℕ) (s : Session) (p q : PassParts)
    (within : IsWithin s p) where
  pub write_committed : (write : Write) (n : ℕ) → s.transaction ≡ None → refusal_of definitions s (write_call write) ≡ None
      → first_unissued p.next (key_of write).elems ≡ None → IsAppended p q (own_commit client write) n []
      → HasSaid definitions shards window p q s (saw_commit write n s) (request_of client (write_call write))
      (written_body write (at.Commit n))
  write_committed (Put e) n outside unrefused issued done =
      put_committed definitions shards window client s p q e.key e.properties n outside unrefused
      (first_unissued-rises p.next q.next e.key.elems done.next issued) within done
  write_committed (Delete k) n outside unrefused issued done =
      delete_committed definitions shards window client s p q k n outside unrefused
      (first_unissued-rises p.next q.next k.elems done.next issued) within done

  pub write_unissued : (write : Write) (id : ℕ) → refusal_of definitions s (write_call write) ≡ None
      → first_unissued q.next (key_of write).elems ≡ Some id → HasRead p q
      → HasSaid definitions shards window p q s (saw_next q.next s) (request_of client (write_call write)) (body.IdNotIssued id q.next)
  write_unissued (Put e) id unrefused first h =
      put_unissued definitions shards window client s p q within e.key false e.properties id unrefused first h
  write_unissued (Delete k) id unrefused first h =
      delete_unissued definitions shards window client s p q within k id unrefused first h

  pub new_committed : (e : EntityParts) (n id : ℕ) → s.transaction ≡ None
      → refusal_of definitions s (call.Put e.key true e.properties) ≡ None → ends_in_id e.key.elems ≡ true
      → first_unissued p.next e.key.elems ≡ None → p.next ≤ id → id < greatest_id → q.next ≡ id + 1
      → IsAppended p q (renumbered_commit (own_commit client (Put e)) id) n (id ∷ [])
      → HasSaid definitions shards window p q s (saw_commit (Put (record { key = renumbered e.key id; properties = e.properties })) n s)
      (request_of client (call.Put e.key true e.properties)) (body.Put (renumbered e.key id) (at.Commit n))
  new_committed e n id outside unrefused ends issued shown below risen done =
      put_new_committed definitions shards window client s p q e.key e.properties n id outside unrefused ends shown below
      (subst (λ next. first_unissued next (renumbered e.key id).elems ≡ None) (sym risen)
      (completed_issued p.next id e.key.elems shown issued)) within done

-- what a client has seen once its commit was told
pub wrote_seen : (seen placed raised : Session) (o : Option Transaction) (n next above : ℕ) → placed ≡ saw_place n seen
    → raised ≡ saw_next next placed → next ≡ above → with_transaction o raised ≡ saw_next above (saw_place n (with_transaction o seen))
wrote_seen seen placed raised o n next above is was same =
    ap (λ s. with_transaction o s) was ∙ ap (λ s. with_transaction o (saw_next next s)) is
    ∙ ap (λ m. with_transaction o (saw_next m (saw_place n seen))) same

module _ (definitions : List IndexDef) (shards : ℕ) (window : Option ℕ) (before after : SessionParts) (p : PassParts) (number kept : ℕ)
    (within : IsWithin before.seen before.pass) (outside : before.seen.transaction ≡ None) (h : HasRead before.pass p) where
  within_p : IsWithin before.seen p
  within_p = within_later before.seen before.pass p (grown_by_reading before.pass p h) within

  -- a write that was committed by itself
  pub wrote_replied : (write : Write) (draft : Commit) (n : ℕ) → refusal_of definitions before.seen (write_call write) ≡ None
      → first_unissued p.next (key_of write).elems ≡ None → draft ≡ own_commit before.client write → IsAppended p after.pass draft n []
      → after.client ≡ before.client → after.seen ≡ saw_commit write n before.seen
      → after.text ≡ before.text
      ++ reply_text (record { client = before.client; line = number; body = written_body write (at.Commit n) })
      → kept ≤ after.room
      → HasReplied definitions shards window before after number (request_of before.client (write_call write)) kept
  wrote_replied write draft n unrefused issued is done client seen text room =
      replied definitions shards window before after number (request_of before.client (write_call write)) kept
      (written_body write (at.Commit n)) client
      (subst (λ (s : Session). HasSaid definitions shards window before.pass after.pass before.seen s
      (request_of before.client (write_call write)) (written_body write (at.Commit n))) (sym seen)
      (said_after definitions shards window before.pass p after.pass before.seen (saw_commit write n before.seen)
      (request_of before.client (write_call write)) (written_body write (at.Commit n)) h
      (write_committed definitions shards window before.client before.seen p after.pass within_p write n outside unrefused issued
      (subst (λ (c : Commit). IsAppended p after.pass c n []) is done))))
      text room

  -- and a put whose id was drawn with its commit
  pub wrote_new_replied : (e : EntityParts) (draft : Commit) (n id : ℕ)
      → refusal_of definitions before.seen (call.Put e.key true e.properties) ≡ None
      → ends_in_id e.key.elems ≡ true → first_unissued p.next e.key.elems ≡ None → p.next ≤ id → id < greatest_id
      → after.pass.next ≡ id + 1 → draft ≡ own_commit before.client (Put e)
      → IsAppended p after.pass (renumbered_commit draft id) n (id ∷ []) → after.client ≡ before.client
      → after.seen ≡ saw_commit (Put (record { key = renumbered e.key id; properties = e.properties })) n before.seen
      → after.text ≡ before.text
      ++ reply_text (record { client = before.client; line = number; body = body.Put (renumbered e.key id) (at.Commit n) })
      → kept ≤ after.room
      → HasReplied definitions shards window before after number (request_of before.client (call.Put e.key true e.properties)) kept
  wrote_new_replied e draft n id unrefused ends issued shown below risen is done client seen text room =
      let read = request_of before.client (call.Put e.key true e.properties) in
      let said = body.Put (renumbered e.key id) (at.Commit n) in
      let later = saw_commit (Put (record { key = renumbered e.key id; properties = e.properties })) n before.seen in
      replied definitions shards window before after number read kept said client
      (subst (λ (s : Session). HasSaid definitions shards window before.pass after.pass before.seen s read said) (sym seen)
      (said_after definitions shards window before.pass p after.pass before.seen later read said h
      (new_committed definitions shards window before.client before.seen p after.pass within_p e n id outside unrefused ends issued shown
      below risen (subst (λ (c : Commit). IsAppended p after.pass (renumbered_commit c id) n (id ∷ [])) is done))))
      text room

-- no id is left for an incomplete put
pub new_exhausted : (definitions : List IndexDef) (shards : ℕ) (window : Option ℕ) (client : ℕ) (s : Session) (first p q : PassParts)
    (e : EntityParts) → IsWithin s first → HasRead first p → HasRead p q
    → refusal_of definitions s (call.Put e.key true e.properties) ≡ None
    → first_unissued p.next e.key.elems ≡ None → (cause told : NewCause) → told ≡ cause
    → WhereExhausted (λ next. (p.next ≤ next) × (q.next ≡ next) × (greatest_id < next + 1)) cause
    → WhereExhausted (λ next. HasSaid definitions shards window first q s (saw_next next s)
    (request_of client (call.Put e.key true e.properties)) (body.IdsExhausted next)) told
new_exhausted definitions shards window client s first p q e within h later unrefused issued cause told same exhausted =
    subst (WhereExhausted said) (sym same) (by cause exhausted) where
      said : ℕ → Type 0
      said next =
          HasSaid definitions shards window first q s (saw_next next s) (request_of client (call.Put e.key true e.properties))
          (body.IdsExhausted next)

      within_p : IsWithin s p
      within_p = within_later s first p (grown_by_reading first p h) within

      by : (c : NewCause) → WhereExhausted (λ next. (p.next ≤ next) × (q.next ≡ next) × (greatest_id < next + 1)) c
          → WhereExhausted said c
      by (new_cause.IdsExhausted next) facts =
          said_after definitions shards window first p q s (saw_next next s) (request_of client (call.Put e.key true e.properties))
          (body.IdsExhausted next) h
          (put_exhausted definitions shards window client s p q within_p e.key e.properties next unrefused
          (first_unissued-rises p.next next e.key.elems facts.0 issued) facts.2 facts.0 (omega (arith, facts.1)) later)
      by new_cause.NoMemory facts = tt
