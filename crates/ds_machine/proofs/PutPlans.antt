-- What is due of puts and deletes.
use Rattle.ds_machine.proofs.Words.{nat_tests, common_steps, ◌≡◌, inl, inr, ℕ, ◌+◌, ◌<◌, ◌≤◌, List, [], ◌∷◌, take, refl, ap, ◌∙◌, arith}
use Rattle.ds_machine.proofs.Words.{Option, Some, None, Bool, true, false, cond, Ok, nat_le, ◌&&◌, option_or, All-nil, Id, Elem}
use Rattle.ds_machine.proofs.Words.{EntityParts, KeyParts, root_of, first_drawn_id, greatest_id, IndexDef, Write, Put, first_unissued}
use Rattle.ds_machine.proofs.Words.{key_of, touch_place, Call, Body, WriteAt, BodyAnswers, CallAnswers, UnlessRefused, group_refusal}
use Rattle.ds_machine.proofs.Words.{acknowledged_in, accepted_in, printed_next_in, drawn_by_call, counter_ids, refusal_of, first_refusal}
use Rattle.ds_machine.proofs.Words.{Session, Transaction, World, Effect, IsDuePlan, store_after, session_after, StateParts, world}
use Rattle.ds_machine.proofs.Words.{IsWritable, IsWritePlan, entity_refusal, renumbered, with_last_id, ends_in_id, Delete, write_refusal}
use Rattle.ds_machine.proofs.Words.{new_group_refusal, unless_touched, last_id, written_commit, entity_body, row_refusal, group_asked}
use Rattle.ds_machine.proofs.Words.{is_root, SaysWrite}
use Rattle.ds_request.specs.declared.call.Call.TheVariants as call
use Rattle.ds_reply.specs.declared.reply.Body.TheVariants as body
use Rattle.ds_machine.proofs.Plans.{unrefused}
use Rattle.ds_machine.proofs.WriteAnswers.{ids-below}

-- ---- what a put asks of its transaction

refusals-none : (a : Option Body) (rest : List (Option Body)) → first_refusal (a ∷ rest) ≡ None
    → (a ≡ None) × (first_refusal rest ≡ None)
refusals-none a rest none = grind (arith, common_steps)

put-allowed : (definitions : List IndexDef) (s : Session) (e : EntityParts) (incomplete : Bool)
    → refusal_of definitions s (call.Put e.key incomplete e.properties) ≡ None
    → (group_refusal s.transaction (group_asked incomplete e.key) ≡ None) × (write_refusal s.transaction ≡ None)
put-allowed definitions s e incomplete none =
    let a = refusals-none (entity_body (entity_refusal e.key e.properties)) _ none in
    let b = refusals-none (row_refusal definitions e) _ a.1 in
    let c = refusals-none (group_refusal s.transaction (group_asked incomplete e.key)) _ b.1 in
    (c.0, (refusals-none (write_refusal s.transaction) [] c.1).0)

new-any : (t : Transaction) (g h : Option KeyParts) → new_group_refusal t g ≡ None → new_group_refusal t h ≡ None
new-any t g h none = grind (arith, common_steps)

-- the group of the completed key may be touched where that of the asked one may
group_completed : (o : Option Transaction) (key : KeyParts) (id : ℕ) → group_refusal o (group_asked true key) ≡ None
    → group_refusal o (Some (root_of (renumbered key id))) ≡ None
group_completed None key id none = refl
group_completed (Some t) key id none = by key.elems none where
  known : (g : KeyParts) → new_group_refusal t None ≡ None → (o : Option ℕ) → unless_touched o (new_group_refusal t (Some g)) ≡ None
  known g none None = new-any t None (Some g) none
  known g none (Some place) = refl

  by : (es : List Elem) → group_refusal (Some t) (cond (is_root es) None (Some (record { namespace = key.namespace; elems = take 1 es })))
      ≡ None →
      group_refusal (Some t) (Some (record { namespace = key.namespace; elems = take 1 (with_last_id es id) })) ≡ None
  by [] none = none
  by (e ∷ []) none =
      let group : KeyParts = record { namespace = key.namespace; elems = (record e { ident = Id id }) ∷ [] } in
      known group none (touch_place group t.touched)
  by (e ∷ f ∷ es) none = none

-- ---- the ids of a completed key

last_id-completed : (es : List Elem) (id : ℕ) → ends_in_id es ≡ true → last_id (with_last_id es id) ≡ id ∷ []
last_id-completed [] id ends = cc
last_id-completed (e ∷ []) id ends = refl
last_id-completed (e ∷ f ∷ []) id ends = refl
last_id-completed (e ∷ f ∷ g ∷ es) id ends = last_id-completed (f ∷ g ∷ es) id ends

-- the drawn id is issued, and the others are
numbered-issued : (next id : ℕ) (es : List Elem) → id < next → first_unissued next es ≡ None
    → first_unissued next (with_last_id es id) ≡ None
numbered-issued next id [] low none = refl
numbered-issued next id (e ∷ []) low none =
    let issued : cond (nat_le first_drawn_id id && nat_le next id) (Some id) None ≡ None = grind (arith, nat_tests) in
    ap (λ o. option_or o None) issued
numbered-issued next id (e ∷ f ∷ es) low none =
    let rest = numbered-issued next id (f ∷ es) low in grind (arith, common_steps)

abbrev pub numbered : EntityParts → ℕ → EntityParts
numbered e id = record { key = renumbered e.key id; properties = e.properties }

-- ---- what is due

module _ (st : StateParts) (s : Session) (client : ℕ) where
  -- what is said of a write, to a call that nothing refuses and by an answer that tells the key and where the write stands
  write_due : (c : Call) (ids : List ℕ) (says : KeyParts → WriteAt → Body) (write : Write) (b : Body) (change : Effect)
      → SaysWrite says st s client write b change → first_unissued st.store.next (key_of write).elems ≡ None
      → refusal_of st.store.definitions s c ≡ None
      → ((w : World) (at : WriteAt) (after : Session) → UnlessRefused (refusal_of w.definitions s c) s (says (key_of write) at) after
      (CallAnswers w client s c (says (key_of write) at) after)
      → BodyAnswers w s (Ok (record { client = client; call = c })) (says (key_of write) at) after)
      → ((at : WriteAt) → IsWritePlan st s client write at change → (window : Option ℕ)
      → CallAnswers (world (store_after change st.store) window) client s c (says (key_of write) at) (session_after change st.store s))
      → ((at : WriteAt) → (acknowledged_in (says (key_of write) at) ≡ written_commit at)
      × (accepted_in (says (key_of write) at) ≡ counter_ids (key_of write).elems) × (printed_next_in (says (key_of write) at) ≡ [])
      × (drawn_by_call c (says (key_of write) at) ≡ ids)) → IsDuePlan st s client c ids b change
  write_due c ids says write b change (inl (is, nothing)) issued none is_call answers tells = inl is
  write_due c ids says write b change (inr (at_it, is, plan)) issued none is_call answers tells = inr (rw is (record {
    answers = λ window. is_call (world (store_after change st.store) window) at_it (session_after change st.store s)
        (unrefused (world (store_after change st.store) window) client s (session_after change st.store s) c (says (key_of write) at_it)
        (ap (λ definitions. refusal_of definitions s c) plan.definitions ∙ none) (answers at_it plan window));
    allowed = plan.allowed;
    definitions = plan.definitions;
    shards = plan.shards;
    next = plan.next;
    added = plan.added;
    journal = plan.journal;
    acknowledges = (tells at_it).0 ∙ plan.acknowledges;
    draws = (tells at_it).3;
    accepts = rw (tells at_it).1 (ids-below st.store.next (key_of write).elems issued);
    prints = rw (tells at_it).2 (All-nil (λ next. next ≤ st.store.next));
  }))

  pub delete_due : (key : KeyParts) (b : Body) (change : Effect) → refusal_of st.store.definitions s (call.Delete key) ≡ None
      → first_unissued st.store.next key.elems ≡ None → SaysWrite body.Delete st s client (Delete key) b change
      → IsDuePlan st s client (call.Delete key) [] b change
  delete_due key b change none issued says = write_due (call.Delete key) [] body.Delete (Delete key) b change says issued none
      (λ w at after x. x) (λ at plan window. (refl, plan.answers window)) (λ at. (refl, refl, refl, refl))

  module _ (e : EntityParts) where
    -- a put of a complete key
    pub put_writable : refusal_of st.store.definitions s (call.Put e.key false e.properties) ≡ None
        → first_unissued st.store.next e.key.elems ≡ None → IsWritable st s (Put e)
    put_writable none issued =
        let allowed = put-allowed st.store.definitions s e false none in record { group = allowed.0; few = allowed.1; issued = issued }

    pub complete_due : (b : Body) (change : Effect) → refusal_of st.store.definitions s (call.Put e.key false e.properties) ≡ None
        → first_unissued st.store.next e.key.elems ≡ None → SaysWrite body.Put st s client (Put e) b change
        → IsDuePlan st s client (call.Put e.key false e.properties) [] b change
    complete_due b change none issued says = write_due (call.Put e.key false e.properties) [] body.Put (Put e) b change says issued none
        (λ w at after x. x) (λ at plan window. record { completed = refl; written = plan.answers window }) (λ at. (refl, refl, refl, refl))

    -- a put whose id was drawn
    module _ (id : ℕ) (none : refusal_of st.store.definitions s (call.Put e.key true e.properties) ≡ None)
        (issued : first_unissued st.store.next e.key.elems ≡ None) (low : id + 1 ≤ st.store.next) where
      pub numbered_writable : IsWritable st s (Put (numbered e id))
      numbered_writable =
          let allowed = put-allowed st.store.definitions s e true none in
          record {
            group = group_completed s.transaction e.key id allowed.0;
            few = allowed.1;
            issued = numbered-issued st.store.next id e.key.elems (omega (arith, low)) issued;
          }

      pub numbered_due : (b : Body) (change : Effect) → ends_in_id e.key.elems ≡ true → s.next_id ≤ id → st.store.next ≤ greatest_id
          → SaysWrite body.Put st s client (Put (numbered e id)) b change
          → IsDuePlan st s client (call.Put e.key true e.properties) (id ∷ []) b change
      numbered_due b change ends shown left says = write_due (call.Put e.key true e.properties) (id ∷ []) body.Put (Put (numbered e id)) b change
          says (numbered-issued st.store.next id e.key.elems (omega (arith, low)) issued) none (λ w at after x. x)
          (λ at plan window. record { completed = (id, shown, omega (arith, low, left), refl); written = plan.answers window })
          (λ at. (refl, refl, refl, last_id-completed e.key.elems id ends))
