-- Where strong reads stand before the store is asked, and what a client has seen after one.
use Rattle.std.proofs.Common.{◌≡◌, ℕ, ◌≤◌, List, ◌++◌, refl, ap, sym, ◌∙◌, subst, true, Option, Some, None}
use Rattle.std.proofs.Common.{arith}
use Rattle.std.specs.Prelude.{is_some, take}
use Rattle.std.proofs.lemmas.List.{take_all}
use Rattle.ds_entity.specs.Entities.{EntityParts}
use Rattle.ds_base.specs.Keys.{KeyParts, root_of}
use Rattle.ds_indexdef.specs.declared.IndexDef.{IndexDef}
use Rattle.ds_log.specs.declared.Entry.{Entry}
use Rattle.ds_log.specs.Shards.{shard_of}
use Rattle.ds_reply.specs.declared.reply.Body.TheVariants as body
use Rattle.ds_reply.specs.Replies.{reply_text}
use Rattle.ds_request.specs.declared.call.Call.TheVariants as call
use Rattle.ds_model.specs.Answers.{saw_group}
use Rattle.ds_model.specs.Groups.{place_in, touching_if, with_transaction}
use Rattle.ds_model.specs.Refusals.{refusal_of}
use Rattle.ds_model.specs.Sessions.{Session, Transaction, last_commit, list_of, saw_entries, saw_place, saw_shard_count}
use Rattle.ds_model.specs.Worlds.{World, entries_up_to}
use Rattle.ds_store.specs.Answered.{IsExpired, IsGot}
use Rattle.ds_store.specs.Passes.{PassParts, HasRead}
use Rattle.ds_session_state.specs.Answering.{HasSaid}
use Rattle.ds_session_state.specs.Replying.{HasReplied, request_of}
use Rattle.ds_session_state.specs.Sessions.{HasTransaction, IsWithin, SessionParts, world_seen}
use Rattle.ds_session_state.specs.Standing.{AskedAt, MayReadAt, Touched}
use Rattle.ds_session_state.proofs.GrowthLaws.{grown_by_reading}
use Rattle.ds_session_state.proofs.ReadLaws.{get_expired, got, touched_at}
use Rattle.ds_session_state.proofs.ReplyLaws.{replied}
use Rattle.ds_session_state.proofs.SayingLaws.{said_after}
use Rattle.ds_session_state.proofs.SeeingLaws.{counted_at, touched_place, within_later}

-- there is a transaction
pub some_of : (o : Option Transaction) → is_some o ≡ true → (t : Transaction) × (o ≡ Some t)
some_of None is = cc
some_of (Some t) is = (t, refl)

-- one place is told
pub same_place : (at : Option ℕ) (a b : ℕ) → at ≡ Some a → at ≡ Some b → a ≡ b
same_place at a b is other = cc

-- a group that is touched is read at its touch place
pub stands_touched : (s : Session) (p : PassParts) (group : KeyParts) (m : ℕ) → IsWithin s p → place_in s.transaction group ≡ Some m
    → MayReadAt s p group m
stands_touched s p group m within is = touched_at s p group m is (by s.transaction within.transaction is) where
  by : (o : Option Transaction) → HasTransaction p o → place_in o group ≡ Some m → Touched p m
  by None has is = cc
  by (Some t) has is = touched_place p t group m has is

-- what a client has seen once a strong read of a group was told
pub group_seen : (w : World) (seen later : Session) (had has before : Option Transaction) (group key_group : KeyParts) (m shard entries : ℕ)
    → before ≡ had → group ≡ key_group → shard ≡ shard_of key_group w.shards → entries ≡ entries_up_to w m (shard_of key_group w.shards)
    → has ≡ touching_if group m before → later ≡ saw_entries shard entries (saw_place m seen)
    → with_transaction has later ≡ saw_group w key_group m (with_transaction had seen)
group_seen w seen later had has before group key_group m shard entries same named numbered counted touched raised =
    ap (λ l. with_transaction has l) raised
    ∙ ap (λ t. with_transaction t (saw_entries shard entries (saw_place m seen)))
    (touched ∙ ap (λ g. touching_if g m before) named ∙ ap (λ o. touching_if key_group m o) same)
    ∙ ap (λ n. with_transaction (touching_if key_group m had) (saw_entries n entries (saw_place m seen))) numbered
    ∙ ap (λ n. with_transaction (touching_if key_group m had) (saw_entries (shard_of key_group w.shards) n (saw_place m seen))) counted

-- a client that is within its pass is so with a transaction that has more room, once the pass has read more
pub within_same : (had has : Option Transaction) (seen : Session) (p q : PassParts) → has ≡ had → HasRead p q
    → IsWithin (with_transaction had seen) p
    → IsWithin (with_transaction has seen) q
within_same had has seen p q same h within =
    subst (λ o. IsWithin (with_transaction o seen) q) (sym same)
    (within_later (with_transaction had seen) p q (grown_by_reading p q h) within)

-- where a read of a key's group stands, told of the transaction as it is once it has room
pub asked_at : (had has : Option Transaction) (seen : Session) (before p : PassParts) (at : Option ℕ) (group key_group : KeyParts)
    → has ≡ had → group ≡ key_group → IsWithin (with_transaction had seen) before
    → ((s : Session) → IsWithin (with_transaction has s) before → AskedAt at (with_transaction has s) p group)
    → AskedAt at (with_transaction had seen) p key_group
asked_at had has seen before p at group key_group same named within asks =
    subst (λ k. AskedAt at (with_transaction had seen) p k) named
    (subst (λ o. AskedAt at (with_transaction o seen) p group) same
    (asks seen (subst (λ o. IsWithin (with_transaction o seen) before) (sym same) within)))

module _ (definitions : List IndexDef) (shards window : ℕ) (before after : SessionParts) (p : PassParts) (number kept : ℕ) (key : KeyParts)
    (at : Option ℕ) (within : IsWithin before.seen before.pass)
    (unrefused : refusal_of definitions before.seen (call.Get key) ≡ None) (h : HasRead before.pass p)
    (asked : AskedAt at before.seen p (root_of key)) where
  within_p : IsWithin before.seen p
  within_p = within_later before.seen before.pass p (grown_by_reading before.pass p h) within

  -- a get that was told
  pub got_replied : (found : Option EntityParts) (m entries : ℕ) → IsGot shards p after.pass key at found m entries
      → after.client ≡ before.client
      → after.seen ≡ saw_group (world_seen definitions shards (Some window) after.pass) (root_of key) m before.seen
      → after.text ≡ before.text ++ reply_text (record { client = before.client; line = number; body = body.Get found m })
      → kept ≤ after.room
      → HasReplied definitions shards (Some window) before after number (request_of before.client (call.Get key)) kept
  got_replied found m entries is client seen text room =
      replied definitions shards (Some window) before after number (request_of before.client (call.Get key)) kept (body.Get found m) client
      (subst (λ (s : Session). HasSaid definitions shards (Some window) before.pass after.pass before.seen s
      (request_of before.client (call.Get key)) (body.Get found m)) (sym seen)
      (said_after definitions shards (Some window) before.pass p after.pass before.seen
      (saw_group (world_seen definitions shards (Some window) after.pass) (root_of key) m before.seen)
      (request_of before.client (call.Get key)) (body.Get found m) h
      (got definitions shards window before.seen p after.pass within_p before.client key at found m entries unrefused asked is)))
      text room

module _ (definitions : List IndexDef) (shards window : ℕ) (s : Session) (first p q : PassParts) (group : KeyParts) (at : Option ℕ)
    (snapshot applied commit shard : ℕ) (numbered : shard ≡ shard_of group shards)
    (is : IsExpired shards window p q group at snapshot applied commit) where
  -- the commit that is told is that of the last entry that is counted
  pub expired_commit : commit ≡ last_commit (take applied (list_of q.lists shard))
  expired_commit =
      is.commit_is
      ∙ ap (λ (es : List Entry). last_commit es)
      (sym (take_all applied (list_of q.lists (shard_of group shards))
      (omega (arith, is.applied_is, counted_at q.lists (shard_of group shards)))))
      ∙ ap (λ n. last_commit (take applied (list_of q.lists n))) (sym numbered)

  -- the versions that a get asks for are gone
  pub expired_said : (client : ℕ) (key : KeyParts) → group ≡ root_of key → IsWithin s first → HasRead first p
      → refusal_of definitions s (call.Get key) ≡ None → is_some at ≡ is_some s.transaction → AskedAt at s p group
      → HasSaid definitions shards (Some window) first q s
      (saw_shard_count q.lists shard applied (saw_place is.place (with_transaction None s)))
      (request_of client (call.Get key)) (body.Expired applied is.place snapshot)
  expired_said client key named within h unrefused same asked =
      let inside = some_of s.transaction (sym same ∙ ap (λ (o : Option ℕ). is_some o) is.inside) in
      said_after definitions shards (Some window) first p q s
      (saw_shard_count q.lists shard applied (saw_place is.place (with_transaction None s))) (request_of client (call.Get key))
      (body.Expired applied is.place snapshot) h
      (subst (λ n. HasSaid definitions shards (Some window) p q s
      (saw_shard_count q.lists n applied (saw_place is.place (with_transaction None s))) (request_of client (call.Get key))
      (body.Expired applied is.place snapshot)) (sym numbered)
      (subst (λ g. (gone : IsExpired shards window p q g at snapshot applied commit) → AskedAt at s p g
      → HasSaid definitions shards (Some window) p q s
      (saw_shard_count q.lists (shard_of g shards) applied (saw_place gone.place (with_transaction None s)))
      (request_of client (call.Get key)) (body.Expired applied gone.place snapshot)) (sym named)
      (λ gone asks.
      get_expired definitions shards window s p q within_p client key at inside.0 snapshot applied commit unrefused inside.1 asks gone)
      is asked))
    where
      within_p : IsWithin s p
      within_p = within_later s first p (grown_by_reading first p h) within
