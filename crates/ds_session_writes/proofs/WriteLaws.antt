-- Puts and deletes: what the store's calls tell is an answer to them.
use Rattle.std.proofs.Common.{◌≡◌, ℕ, ◌-◌, ◌<◌, ◌≤◌, List, [], ◌∷◌, ◌++◌, refl, ap, sym, ◌∙◌, subst, arith, Bool, true}
use Rattle.std.proofs.Common.{false, Option, Some, None}
use Rattle.std.specs.Prelude.{All, slice_get}
use Rattle.std.proofs.lemmas.List.{append-nil}
use Rattle.std.proofs.lemmas.List.Elements.{All-nil, All-push}
use Rattle.ds_entity.specs.declared.entity.Property.{Property}
use Rattle.ds_base.specs.Keys.{KeyParts, root_of, renumbered, ends_in_id}
use Rattle.ds_base.specs.Limits.{greatest_id}
use Rattle.ds_indexdef.specs.declared.IndexDef.{IndexDef}
use Rattle.ds_log.specs.declared.Write.{Write}
use Rattle.ds_log.specs.declared.Write.TheVariants.{Put, Delete}
use Rattle.ds_log.specs.Ids.{first_unissued}
use Rattle.ds_log.specs.Logs.{key_of}
use Rattle.ds_request.specs.declared.call.Call.TheVariants as call
use Rattle.ds_reply.specs.declared.reply.WriteAt.{WriteAt}
use Rattle.ds_reply.specs.declared.reply.WriteAt.TheVariants as at
use Rattle.ds_reply.specs.declared.reply.Body.TheVariants as body
use Rattle.ds_model.specs.Answers.{Completes, WriteAnswers}
use Rattle.ds_model.specs.Groups.{StandsAt, place_in, touching, writing, with_transaction}
use Rattle.ds_model.specs.Legal.{drawn_by_call, written_commit}
use Rattle.ds_model.specs.Refusals.{refusal_of}
use Rattle.ds_model.specs.Sessions.{Session, Transaction, next_above, saw_next, saw_place}
use Rattle.ds_model.specs.Worlds.{World}
use Rattle.ds_store.specs.Answered.{IsAppended, HasDrawn}
use Rattle.ds_store.specs.Passes.{PassParts, HasRead}
use Rattle.ds_session_state.specs.Answering.{HasSaid}
use Rattle.ds_session_state.specs.Replying.{own_commit, request_of}
use Rattle.ds_session_state.specs.Sessions.{HasGrown, HasTransaction, IsWithin, world_seen}
use Rattle.ds_session_writes.proofs.IdLaws.{grown_drawn, one_number}
use Rattle.ds_session_state.proofs.SayingLaws.{call_answers}
use Rattle.ds_session_state.specs.Standing.{Touched}
use Rattle.ds_session_state.proofs.SeeingLaws.{touching_within, within_later, within_next, within_place, within_transaction}
use Rattle.ds_session_writes.proofs.WrittenLaws.{appended_at, grown_appended, ids_below, last_id_completed, next_above_within}
use Rattle.ds_session_writes.proofs.WrittenLaws.{within_appended}

-- what a client has seen once its write is committed, or put behind the others of its transaction
abbrev pub saw_commit : Write → ℕ → Session → Session
saw_commit write n s = saw_next (next_above (key_of write).elems) (saw_place n s)

abbrev pub saw_write : Write → KeyParts → ℕ → Transaction → Session → Session
saw_write write group m t s =
    saw_next (next_above (key_of write).elems) (saw_place m (with_transaction (Some (writing write (touching group m t))) s))

-- ---- the two places of a write

-- outside a transaction
committed_alone : (w : World) (client : ℕ) (s : Session) (write : Write) (p q : PassParts) (n : ℕ) (drawn : List ℕ) → w.journal ≡ q.journal
    → s.transaction ≡ None → IsWithin s p → IsAppended p q (own_commit client write) n drawn
    → WriteAnswers w client s s.transaction write (key_of write) (at.Commit n) (saw_commit write n s)
committed_alone w client s write p q n drawn is outside within done =
    subst (λ o. WriteAnswers w client s o write (key_of write) (at.Commit n) (saw_commit write n s)) (sym outside) (
      record {
        later = omega (arith, within.place, done.later);
        committed = ap (λ cs. slice_get cs (n - 1)) is ∙ appended_at p q (own_commit client write) n drawn done;
      },
      refl,
    )

-- inside one
put_behind : (w : World) (client : ℕ) (s : Session) (write : Write) (t : Transaction) (m : ℕ) → s.transaction ≡ Some t
    → StandsAt w.journal s (place_in (Some t) (root_of (key_of write))) m
    → WriteAnswers w client s s.transaction write (key_of write) (at.Place m) (saw_write write (root_of (key_of write)) m t s)
put_behind w client s write t m inside stands =
    subst (λ o. WriteAnswers w client s o write (key_of write) (at.Place m) (saw_write write (root_of (key_of write)) m t s)) (sym inside)
    (stands, refl)

-- the transaction stays within the pass
write_within : (s : Session) (p : PassParts) (write : Write) (group : KeyParts) (m : ℕ) (t : Transaction) → s.transaction ≡ Some t
    → Touched p m
    → first_unissued p.next (key_of write).elems ≡ None → IsWithin s p → IsWithin (saw_write write group m t s) p
write_within s p write group m t inside here issued within =
    within_next (saw_place m (with_transaction (Some (writing write (touching group m t))) s)) p (next_above (key_of write).elems)
    (next_above_within p.next (key_of write).elems issued)
    (within_place (with_transaction (Some (writing write (touching group m t))) s) p m here.1
    (within_transaction s p (Some (writing write (touching group m t))) (both.0, more) within))
  where
    both : HasTransaction p (Some (touching group m t))
    both = touching_within p group m t here (subst (HasTransaction p) inside within.transaction)

    more : All (λ w. first_unissued p.next (key_of w).elems ≡ None) (t.writes ++ write ∷ [])
    more = All-push (λ w. first_unissued p.next (key_of w).elems ≡ None) t.writes write both.1 issued

module _ (definitions : List IndexDef) (shards : ℕ) (window : Option ℕ) (client : ℕ) (s : Session) (p q : PassParts) where
  -- ---- puts

  put_said : (key : KeyParts) (incomplete : Bool) (properties : List Property) (printed : KeyParts) (place : WriteAt) (later : Session)
      → refusal_of definitions s (call.Put key incomplete properties) ≡ None → Completes s incomplete key printed
      → WriteAnswers (world_seen definitions shards window q) client s s.transaction
      (Put (record { key = printed; properties = properties })) printed place later
      → HasGrown p q → q.commits ≡ p.commits ++ written_commit place
      → q.draws ≡ p.draws ++ drawn_by_call (call.Put key incomplete properties) (body.Put printed place)
      → first_unissued q.next printed.elems ≡ None → IsWithin later q
      → HasSaid definitions shards window p q s later (request_of client (call.Put key incomplete properties)) (body.Put printed place)
  put_said key incomplete properties printed place later unrefused completes written grown commits draws issued within = record {
    answers =
        (call_answers (world_seen definitions shards window q) s later
        (record { client = client; call = call.Put key incomplete properties })
        (body.Put printed place) refl unrefused (record { completed = completes; written = written }));
    grown = grown;
    commits = commits;
    draws = draws;
    accepts = ids_below q.next printed.elems issued;
    prints = All-nil (λ next. next ≤ q.next);
    within = within;
  }

  -- a complete put outside a transaction
  pub put_committed : (key : KeyParts) (properties : List Property) (n : ℕ) → s.transaction ≡ None
      → refusal_of definitions s (call.Put key false properties) ≡ None → first_unissued q.next key.elems ≡ None → IsWithin s p
      → IsAppended p q (own_commit client (Put (record { key = key; properties = properties }))) n []
      → HasSaid definitions shards window p q s (saw_commit (Put (record { key = key; properties = properties })) n s)
      (request_of client (call.Put key false properties)) (body.Put key (at.Commit n))
  put_committed key properties n outside unrefused issued within done =
      let write = Put (record { key = key; properties = properties }) in
      put_said key false properties key (at.Commit n) (saw_commit write n s) unrefused refl
      (committed_alone (world_seen definitions shards window q) client s write p q n [] refl outside within done)
      (grown_appended p q (own_commit client write) n [] done) done.commits done.draws issued
      (within_next (saw_place n s) q (next_above key.elems) (next_above_within q.next key.elems issued)
      (within_appended p q (own_commit client write) n [] done s within))

  -- an incomplete put outside a transaction, whose id was drawn with its commit
  pub put_new_committed : (key : KeyParts) (properties : List Property) (n id : ℕ) → s.transaction ≡ None
      → refusal_of definitions s (call.Put key true properties) ≡ None → ends_in_id key.elems ≡ true → p.next ≤ id → id < greatest_id
      → first_unissued q.next (renumbered key id).elems ≡ None → IsWithin s p
      → IsAppended p q (own_commit client (Put (record { key = renumbered key id; properties = properties }))) n (id ∷ [])
      → HasSaid definitions shards window p q s (saw_commit (Put (record { key = renumbered key id; properties = properties })) n s)
      (request_of client (call.Put key true properties)) (body.Put (renumbered key id) (at.Commit n))
  put_new_committed key properties n id outside unrefused ends shown below issued within done =
      let write = Put (record { key = renumbered key id; properties = properties }) in
      put_said key true properties (renumbered key id) (at.Commit n) (saw_commit write n s) unrefused
      (id, omega (arith, within.next, shown), below, refl)
      (committed_alone (world_seen definitions shards window q) client s write p q n (id ∷ []) refl outside within done)
      (grown_appended p q (own_commit client write) n (id ∷ []) done) done.commits
      (done.draws ∙ ap (λ ids. p.draws ++ ids) (sym (last_id_completed key.elems id ends))) issued
      (within_next (saw_place n s) q (next_above (renumbered key id).elems) (next_above_within q.next (renumbered key id).elems issued)
      (within_appended p q (own_commit client write) n (id ∷ []) done s within))

  -- a complete put inside a transaction: its group stands at a touched place
  pub put_taken : (key : KeyParts) (properties : List Property) (t : Transaction) (m : ℕ) → s.transaction ≡ Some t
      → refusal_of definitions s (call.Put key false properties) ≡ None → StandsAt q.journal s (place_in (Some t) (root_of key)) m
      → Touched q m
      → first_unissued q.next key.elems ≡ None → IsWithin s q → HasRead p q
      → HasSaid definitions shards window p q s (saw_write (Put (record { key = key; properties = properties })) (root_of key) m t s)
      (request_of client (call.Put key false properties)) (body.Put key (at.Place m))
  put_taken key properties t m inside unrefused stands here issued within h =
      let write = Put (record { key = key; properties = properties }) in
      put_said key false properties key (at.Place m) (saw_write write (root_of key) m t s) unrefused refl
      (put_behind (world_seen definitions shards window q) client s write t m inside stands)
      (record { journal = h.journal; lists = h.lists; place = h.place; next = h.next }) (h.commits ∙ sym (append-nil p.commits))
      (h.draws ∙ sym (append-nil p.draws)) issued (write_within s q write (root_of key) m t inside here issued within)

  -- an incomplete put inside a transaction, whose id was drawn last
  pub put_new_taken : (key : KeyParts) (properties : List Property) (t : Transaction) (m id : ℕ) → s.transaction ≡ Some t
      → refusal_of definitions s (call.Put key true properties) ≡ None → ends_in_id key.elems ≡ true
      → StandsAt q.journal s (place_in (Some t) (root_of (renumbered key id))) m → Touched q m
      → first_unissued q.next (renumbered key id).elems ≡ None → IsWithin s p → HasDrawn p q id 1
      → HasSaid definitions shards window p q s
      (saw_write (Put (record { key = renumbered key id; properties = properties })) (root_of (renumbered key id)) m t s)
      (request_of client (call.Put key true properties)) (body.Put (renumbered key id) (at.Place m))
  put_new_taken key properties t m id inside unrefused ends stands here issued within drawn =
      let write = Put (record { key = renumbered key id; properties = properties }) in
      put_said key true properties (renumbered key id) (at.Place m) (saw_write write (root_of (renumbered key id)) m t s) unrefused
      (id, omega (arith, within.next, drawn.shown), omega (arith, drawn.within), refl)
      (put_behind (world_seen definitions shards window q) client s write t m inside stands)
      (grown_drawn p q id 1 drawn) (ap (λ r. r.commits) drawn.after_is ∙ sym (append-nil p.commits))
      (ap (λ r. r.draws) drawn.after_is ∙ ap (λ ids. p.draws ++ ids) (one_number id ∙ sym (last_id_completed key.elems id ends))) issued
      (write_within s q write (root_of (renumbered key id)) m t inside here issued (within_later s p q (grown_drawn p q id 1 drawn) within))

  -- ---- deletes

  delete_said : (key : KeyParts) (place : WriteAt) (later : Session) → refusal_of definitions s (call.Delete key) ≡ None
      → WriteAnswers (world_seen definitions shards window q) client s s.transaction (Delete key) key place later
      → HasGrown p q → q.commits ≡ p.commits ++ written_commit place → q.draws ≡ p.draws ++ [] → first_unissued q.next key.elems ≡ None
      → IsWithin later q
      → HasSaid definitions shards window p q s later (request_of client (call.Delete key)) (body.Delete key place)
  delete_said key place later unrefused written grown commits draws issued within = record {
    answers =
        (call_answers (world_seen definitions shards window q) s later (record { client = client; call = call.Delete key })
        (body.Delete key place) refl unrefused (refl, written));
    grown = grown;
    commits = commits;
    draws = draws;
    accepts = ids_below q.next key.elems issued;
    prints = All-nil (λ next. next ≤ q.next);
    within = within;
  }

  pub delete_committed : (key : KeyParts) (n : ℕ) → s.transaction ≡ None → refusal_of definitions s (call.Delete key) ≡ None
      → first_unissued q.next key.elems ≡ None → IsWithin s p → IsAppended p q (own_commit client (Delete key)) n []
      → HasSaid definitions shards window p q s (saw_commit (Delete key) n s) (request_of client (call.Delete key))
      (body.Delete key (at.Commit n))
  delete_committed key n outside unrefused issued within done =
      delete_said key (at.Commit n) (saw_commit (Delete key) n s) unrefused
      (committed_alone (world_seen definitions shards window q) client s (Delete key) p q n [] refl outside within done)
      (grown_appended p q (own_commit client (Delete key)) n [] done) done.commits done.draws issued
      (within_next (saw_place n s) q (next_above key.elems) (next_above_within q.next key.elems issued)
      (within_appended p q (own_commit client (Delete key)) n [] done s within))

  pub delete_taken : (key : KeyParts) (t : Transaction) (m : ℕ) → s.transaction ≡ Some t → refusal_of definitions s (call.Delete key) ≡ None
      → StandsAt q.journal s (place_in (Some t) (root_of key)) m → Touched q m → first_unissued q.next key.elems ≡ None → IsWithin s q
      → HasRead p q
      → HasSaid definitions shards window p q s (saw_write (Delete key) (root_of key) m t s) (request_of client (call.Delete key))
      (body.Delete key (at.Place m))
  delete_taken key t m inside unrefused stands here issued within h =
      delete_said key (at.Place m) (saw_write (Delete key) (root_of key) m t s) unrefused
      (put_behind (world_seen definitions shards window q) client s (Delete key) t m inside stands)
      (record { journal = h.journal; lists = h.lists; place = h.place; next = h.next }) (h.commits ∙ sym (append-nil p.commits))
      (h.draws ∙ sym (append-nil p.draws)) issued (write_within s q (Delete key) (root_of key) m t inside here issued within)
