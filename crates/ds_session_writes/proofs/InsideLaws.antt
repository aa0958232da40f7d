-- Writes in a transaction: what the calls before them tell is an answer to them.
use Rattle.std.proofs.Common.{◌≡◌, ℕ, ◌+◌, ◌<◌, List, [], ◌∷◌, length, take, refl, ap, sym, ◌∙◌, subst, arith, Bool, true, false}
use Rattle.std.proofs.Common.{cond, Option, Some, None}
use Rattle.std.specs.Prelude.{IsTrue, is_some, nat_le, unwrap_or}
use Rattle.std.specs.Option.{option_map}
use Rattle.ds_entity.specs.declared.entity.Property.{Property}
use Rattle.ds_base.specs.declared.key.Elem.{Elem}
use Rattle.ds_base.specs.declared.key.Ident.TheVariants.{Id}
use Rattle.ds_entity.specs.Entities.{EntityParts}
use Rattle.ds_base.specs.Keys.{KeyParts, ends_in_id, renumbered, root_of, with_last_id}
use Rattle.ds_base.specs.Limits.{greatest_id, most_groups}
use Rattle.ds_indexdef.specs.declared.IndexDef.{IndexDef}
use Rattle.ds_log.specs.declared.Touch.{Touch}
use Rattle.ds_log.specs.declared.Write.{Write}
use Rattle.ds_log.specs.declared.Write.TheVariants.{Put, Delete}
use Rattle.ds_log.specs.Ids.{first_unissued}
use Rattle.ds_log.specs.JournalLaws.{first_unissued-rises}
use Rattle.ds_log.specs.Logs.{key_of}
use Rattle.ds_log.specs.Touches.{touch_place}
use Rattle.ds_request.specs.declared.call.Call.{Call}
use Rattle.ds_request.specs.declared.call.Call.TheVariants as call
use Rattle.ds_reply.specs.declared.reply.WriteAt.TheVariants as at
use Rattle.ds_reply.specs.declared.reply.Body.{Body}
use Rattle.ds_reply.specs.declared.reply.Body.TheVariants as body
use Rattle.ds_model.specs.Groups.{StandsAt, group_refusal, has_none, new_group_refusal, place_in, touching, unless_touched}
use Rattle.ds_model.specs.Groups.{with_transaction}
use Rattle.ds_model.specs.Groups.{write_refusal, writing}
use Rattle.ds_model.specs.Refusals.{entity_body, first_refusal, group_asked, is_root, refusal_of, row_refusal}
use Rattle.ds_model.specs.Sessions.{Session, Transaction, next_above, saw_next, saw_place}
use Rattle.ds_entity.specs.Entities.{entity_refusal}
use Rattle.ds_protocol.specs.Transactions.{MayWrite}
use Rattle.ds_store.specs.Answered.{HasDrawn, HasLooked, HasSeenNext}
use Rattle.ds_store.specs.Passes.{PassParts, HasRead}
use Rattle.ds_session_state.specs.Answering.{HasSaid}
use Rattle.ds_session_state.specs.Replying.{HasReplied, request_of, write_call}
use Rattle.ds_output.specs.Writes.{written_body}
use Rattle.ds_session_state.specs.Sessions.{HasTransaction, IsWithin, SessionParts}
use Rattle.ds_session_state.specs.Standing.{AskedAt, MayReadAt, Touched}
use Rattle.ds_session_state.proofs.GrowthLaws.{grown_by_reading, read_through}
use Rattle.ds_session_writes.proofs.IdLaws.{grown_drawn, put_exhausted, read_next}
use Rattle.ds_session_state.proofs.ReadLaws.{looked_at, may_read_later, touched_at}
use Rattle.ds_session_state.proofs.SayingLaws.{said_after}
use Rattle.ds_session_state.proofs.StateLaws.{later_from}
use Rattle.ds_session_state.proofs.SeeingLaws.{touched_place, within_later}
use Rattle.ds_session_writes.proofs.WriteLaws.{delete_taken, put_new_taken, put_taken}
use Rattle.ds_session_writes.proofs.WrittenLaws.{completed_issued}

-- ---- what a transaction may take

refusals_none : (a : Option Body) (rest : List (Option Body)) → first_refusal (a ∷ rest) ≡ None
    → (a ≡ None) × (first_refusal rest ≡ None)
refusals_none None rest none = (refl, none)
refusals_none (Some b) rest none = cc

both_none : (a b : Option Body) → first_refusal (a ∷ b ∷ []) ≡ None → (a ≡ None) × (b ≡ None)
both_none None None none = (refl, refl)
both_none None (Some b) none = cc
both_none (Some a) b none = cc

-- a put's refusals, its group's and its transaction's last
put_none : (a b c d : Option Body) → first_refusal (a ∷ b ∷ c ∷ d ∷ []) ≡ None → (c ≡ None) × (d ≡ None)
put_none a b c d none = both_none c d (refusals_none b (c ∷ d ∷ []) (refusals_none a (b ∷ c ∷ d ∷ []) none).1).1

may_take : (o : Option Transaction) (group : KeyParts) → IsTrue (is_some o) → group_refusal o (Some group) ≡ None
    → write_refusal o ≡ None → MayWrite o group
may_take None group inside allowed few = cc
may_take (Some t) group inside allowed few = (allowed, few)

-- what is refused by nothing may be written
pub may_write : (definitions : List IndexDef) (s : Session) (write : Write) → IsTrue (is_some s.transaction)
    → refusal_of definitions s (write_call write) ≡ None → MayWrite s.transaction (root_of (key_of write))
may_write definitions s (Put e) inside none =
    let both = put_none (entity_body (entity_refusal e.key e.properties))
    (row_refusal definitions (record { key = e.key; properties = e.properties }))
    (group_refusal s.transaction (group_asked false e.key)) (write_refusal s.transaction) none in
    may_take s.transaction (root_of e.key) inside both.0 both.1
may_write definitions s (Delete k) inside none =
    let both = both_none (group_refusal s.transaction (Some (root_of k))) (write_refusal s.transaction) none in
    may_take s.transaction (root_of k) inside both.0 both.1

new_any : (t : Transaction) (g h : Option KeyParts) → new_group_refusal t g ≡ None → new_group_refusal t h ≡ None
new_any t g h none = by t.several_groups (nat_le most_groups (length t.touched)) t.touched none where
  by : (several full : Bool) (ts : List Touch) →
      cond several (cond full (Some body.TooManyGroups) None) (cond (has_none ts) None (Some (body.SecondGroup g))) ≡ None →
      cond several (cond full (Some body.TooManyGroups) None) (cond (has_none ts) None (Some (body.SecondGroup h))) ≡ None
  by true true ts none = none
  by true false ts none = refl
  by false full [] none = refl
  by false full (u ∷ us) none = cc

new_known : (t : Transaction) (g : KeyParts) → new_group_refusal t None ≡ None → group_refusal (Some t) (Some g) ≡ None
new_known t g none = by (touch_place g t.touched) where
  by : (o : Option ℕ) → unless_touched o (new_group_refusal t (Some g)) ≡ None
  by None = new_any t None (Some g) none
  by (Some place) = refl

-- the group of the completed key may be touched where that of the asked one may
group_completed : (o : Option Transaction) (key : KeyParts) (id : ℕ) → group_refusal o (group_asked true key) ≡ None
    → group_refusal o (Some (root_of (renumbered key id))) ≡ None
group_completed None key id none = refl
group_completed (Some t) key id none = by key.elems none where
  by : (es : List Elem) → group_refusal (Some t) (cond (is_root es) None (Some (record { namespace = key.namespace; elems = take 1 es })))
      ≡ None →
      group_refusal (Some t) (Some (record { namespace = key.namespace; elems = take 1 (with_last_id es id) })) ≡ None
  by [] none = none
  by (e ∷ []) none = new_known t (record { namespace = key.namespace; elems = (record e { ident = Id id }) ∷ [] }) none
  by (e ∷ f ∷ es) none = none

pub may_put_new : (definitions : List IndexDef) (s : Session) (key : KeyParts) (properties : List Property) (id : ℕ)
    → IsTrue (is_some s.transaction) → refusal_of definitions s (call.Put key true properties) ≡ None
    → MayWrite s.transaction (root_of (renumbered key id))
may_put_new definitions s key properties id inside none =
    let both = put_none (entity_body (entity_refusal key properties))
    (row_refusal definitions (record { key = key; properties = properties }))
    (group_refusal s.transaction (group_asked true key)) (write_refusal s.transaction) none in
    may_take s.transaction (root_of (renumbered key id)) inside (group_completed s.transaction key id both.0) both.1

-- ---- what is said

-- what the client has seen once the write stands behind those of its transaction
abbrev pub saw_taken : Write → ℕ → Session → Session
saw_taken write place s =
    saw_next (next_above (key_of write).elems) (saw_place place (with_transaction (option_map (λ t.
    writing write (touching (root_of (key_of write)) place t)) s.transaction) s))

pub taken_seen : (write : Write) (group : KeyParts) (place next : ℕ) (seen placed later : Session) (had has after : Option Transaction)
    → group ≡ root_of (key_of write) → has ≡ had → after ≡ option_map (λ t. writing write (touching group place t)) has
    → placed ≡ saw_place place seen → next ≡ next_above (key_of write).elems → later ≡ saw_next next placed
    → with_transaction after later ≡ saw_taken write place (with_transaction had seen)
taken_seen write group place next seen placed later had has after named same taken raised above shown =
    ap (λ (l : Session). with_transaction after l)
    (shown ∙ ap (λ (l : Session). saw_next next l) raised ∙ ap (λ n. saw_next n (saw_place place seen)) above)
    ∙ ap (λ o. with_transaction o (saw_next (next_above (key_of write).elems) (saw_place place seen)))
    (taken ∙ ap (λ g. option_map (λ t. writing write (touching g place t)) has) named
    ∙ ap (λ o. option_map (λ t. writing write (touching (root_of (key_of write)) place t)) o) same)

-- where a group stands in a transaction, told of the transaction as it is once it has room
pub stood : (at : Option ℕ) (place : ℕ) (had has : Option Transaction) (seen : Session) (q : PassParts) (group named : KeyParts)
    → at ≡ Some place → has ≡ had → group ≡ named → AskedAt at (with_transaction has seen) q group
    → MayReadAt (with_transaction had seen) q named place
stood at place had has seen q group named is same names asked =
    subst (λ g. MayReadAt (with_transaction had seen) q g place) names
    (subst (λ o. MayReadAt (with_transaction o seen) q group place) same
    (subst (λ o. AskedAt o (with_transaction has seen) q group) is asked))

-- a later method's reply to the same call, once the session has only read
pub called_from : (definitions : List IndexDef) (shards : ℕ) (window : Option ℕ) (before now after : SessionParts) (same : now ≡ before)
    (number : ℕ) (asked : Call) (kept : ℕ) (between : SessionParts) → between.client ≡ now.client → between.seen ≡ now.seen
    → between.text ≡ now.text → HasRead now.pass between.pass
    → HasReplied definitions shards window between after number (request_of between.client asked) kept
    → HasReplied definitions shards window before after number (request_of before.client asked) kept
called_from definitions shards window before now after same number asked kept between client seen text h last =
    later_from definitions shards window before now after same number (request_of before.client asked) kept between client seen text h
    (subst (λ n. HasReplied definitions shards window between after number (request_of n asked) kept)
    (client ∙ ap (λ (v : SessionParts). v.client) same) last)

module _ (definitions : List IndexDef) (shards : ℕ) (window : Option ℕ) (client : ℕ) (s : Session) (p q : PassParts) where
  taken_in : (write : Write) (t : Transaction) (place : ℕ) → s.transaction ≡ Some t
      → refusal_of definitions s (write_call write) ≡ None → MayReadAt s q (root_of (key_of write)) place
      → first_unissued q.next (key_of write).elems ≡ None → IsWithin s q → HasRead p q
      → HasSaid definitions shards window p q s
      (saw_next (next_above (key_of write).elems) (saw_place place (with_transaction (Some (writing write (touching (root_of (key_of write))
      place t))) s))) (request_of client (write_call write)) (written_body write (at.Place place))
  taken_in (Put e) t place inside unrefused may issued within h =
      put_taken definitions shards window client s p q e.key e.properties t place inside unrefused
      (subst (λ o. StandsAt q.journal s (place_in o (root_of e.key)) place) inside may.stands) may.touched issued within h
  taken_in (Delete k) t place inside unrefused may issued within h =
      delete_taken definitions shards window client s p q k t place inside unrefused
      (subst (λ o. StandsAt q.journal s (place_in o (root_of k)) place) inside may.stands) may.touched issued within h

  -- the write stands behind the others
  pub write_taken : (write : Write) (place : ℕ) → IsTrue (is_some s.transaction) → IsWithin s p
      → refusal_of definitions s (write_call write) ≡ None → first_unissued p.next (key_of write).elems ≡ None → HasRead p q
      → MayReadAt s q (root_of (key_of write)) place
      → HasSaid definitions shards window p q s (saw_taken write place s) (request_of client (write_call write))
      (written_body write (at.Place place))
  write_taken write place inside within unrefused issued h may = by s.transaction refl inside where
    later : IsWithin s q
    later = within_later s p q (grown_by_reading p q h) within

    by : (o : Option Transaction) → s.transaction ≡ o → IsTrue (is_some o)
        → HasSaid definitions shards window p q s
        (saw_next (next_above (key_of write).elems) (saw_place place (with_transaction (option_map (λ t.
        writing write (touching (root_of (key_of write)) place t)) o) s)))
        (request_of client (write_call write)) (written_body write (at.Place place))
    by None is some = cc
    by (Some t) is some = taken_in write t place is unrefused may
        (first_unissued-rises p.next q.next (key_of write).elems h.next issued) later h

-- an entity under another last id
abbrev pub under_id : ℕ → EntityParts → EntityParts
under_id id e = record { key = renumbered e.key id; properties = e.properties }

-- where a put stands whose id was drawn after a look at the journal
pub may_put_at : (s : Session) (p q r : PassParts) (group : KeyParts) (looked id : ℕ) → IsWithin s p → HasLooked p q looked
    → HasDrawn q r id 1
    → MayReadAt s r group (unwrap_or (place_in s.transaction group) looked)
may_put_at s p q r group looked id within h drawn =
    may_read_later s q r group (unwrap_or (place_in s.transaction group) looked) (grown_drawn q r id 1 drawn)
    (by (place_in s.transaction group) refl) where
      later : IsWithin s q
      later = within_later s p q (grown_by_reading p q h.read) within

      touched : (o : Option Transaction) (m : ℕ) → s.transaction ≡ o → place_in o group ≡ Some m → Touched q m
      touched None m is found = cc
      touched (Some t) m is found = touched_place q t group m (subst (HasTransaction q) is later.transaction) found

      by : (o : Option ℕ) → place_in s.transaction group ≡ o → MayReadAt s q group (unwrap_or o looked)
      by None is = looked_at s p q group looked within is h
      by (Some m) is = touched_at s q group m is (touched s.transaction m refl is)

module _ (definitions : List IndexDef) (shards : ℕ) (window : Option ℕ) (client : ℕ) (s : Session) (p q r : PassParts)
    (within : IsWithin s p) where
  -- an entity that was put under the drawn id
  pub put_numbered : (key : KeyParts) (properties : List Property) (looked id place : ℕ) → IsTrue (is_some s.transaction)
      → refusal_of definitions s (call.Put key true properties) ≡ None → IsTrue (ends_in_id key.elems)
      → first_unissued p.next key.elems ≡ None → HasLooked p q looked → HasDrawn q r id 1
      → place ≡ unwrap_or (place_in s.transaction (root_of (renumbered key id))) looked
      → HasSaid definitions shards window p r s
      (saw_taken (Put (record { key = renumbered key id; properties = properties })) place s)
      (request_of client (call.Put key true properties)) (body.Put (renumbered key id) (at.Place place))
  put_numbered key properties looked id place inside unrefused ends issued look drawn is =
      said_after definitions shards window p q r s (saw_taken (Put (record { key = renumbered key id; properties = properties })) place s)
      (request_of client (call.Put key true properties)) (body.Put (renumbered key id) (at.Place place)) look.read
      (by s.transaction refl inside) where
        later : IsWithin s q
        later = within_later s p q (grown_by_reading p q look.read) within

        may : MayReadAt s r (root_of (renumbered key id)) place
        may = subst (MayReadAt s r (root_of (renumbered key id))) (sym is)
            (may_put_at s p q r (root_of (renumbered key id)) looked id within look drawn)

        drawn_next : r.next ≡ id + 1
        drawn_next = ap (λ v. v.next) drawn.after_is

        known : first_unissued r.next (renumbered key id).elems ≡ None
        known = subst (λ n. first_unissued n (renumbered key id).elems ≡ None) (sym drawn_next)
            (completed_issued q.next id key.elems drawn.shown
            (first_unissued-rises p.next q.next key.elems look.read.next issued))

        by : (o : Option Transaction) → s.transaction ≡ o → IsTrue (is_some o)
            → HasSaid definitions shards window q r s
            (saw_next (next_above (renumbered key id).elems) (saw_place place (with_transaction (option_map (λ t.
            writing (Put (record { key = renumbered key id; properties = properties }))
            (touching (root_of (renumbered key id)) place t)) o) s)))
            (request_of client (call.Put key true properties)) (body.Put (renumbered key id) (at.Place place))
        by None has some = cc
        by (Some t) has some = put_new_taken definitions shards window client s q r key properties t place id has unrefused ends
            (subst (λ o. StandsAt r.journal s (place_in o (root_of (renumbered key id))) place) has may.stands) may.touched known later
            drawn

  -- no id is left
  pub put_new_exhausted : (key : KeyParts) (properties : List Property) (looked next : ℕ)
      → refusal_of definitions s (call.Put key true properties) ≡ None → first_unissued p.next key.elems ≡ None → HasLooked p q looked
      → HasSeenNext q r next → greatest_id < next + 1
      → HasSaid definitions shards window p r s (saw_next next s) (request_of client (call.Put key true properties))
      (body.IdsExhausted next)
  put_new_exhausted key properties looked next unrefused issued look seen beyond =
      let known : r.next ≡ next = ap (λ v. v.next) seen.after_is in
      let h : HasRead p r = read_through p q r look.read (read_next q r next seen) in
      put_exhausted definitions shards window client s p r within key properties next unrefused
      (first_unissued-rises p.next next key.elems (omega (arith, look.read.next, seen.shown)) issued) beyond
      (omega (arith, look.read.next, seen.shown)) (omega (arith, known)) h
