-- What is said to what a request asks is said to its call.
use Rattle.ds_machine.proofs.Words.{◌≡◌, ◌⊎◌, inl, inr, ℕ, refl, ap, sym, ◌∙◌, subst, arith, List, [], Option, Some, None, true}
use Rattle.ds_machine.proofs.Words.{IfSome_then, Ok, Result, IndexDef, Call, Body, has_shard, search_of, drawn_by_call, refusal_of}
use Rattle.ds_machine.proofs.Words.{Session, Transaction, Operation, call_of, written_path, first_unissued, IsRefusal, is_quiet}
use Rattle.ds_machine.proofs.Words.{search_parts, Due, Effect, IsDuePlan, IsGathered, AppliedWithin, ids_of, GatheredParts, IfReply}
use Rattle.ds_machine.proofs.Words.{StateParts, IsSession, Err, with_transaction, IsAlwaysRefused, IsOperationOf, operation_body, IsDueFor}
use Rattle.ds_protocol.specs.declared.operations.OperationRefused.{OperationRefused}
use Rattle.ds_request.specs.declared.call.Call.TheVariants as call
use Rattle.ds_reply.specs.declared.reply.Body.TheVariants as body
use Rattle.ds_model.specs.Asked
use Rattle.ds_protocol.specs.declared.operations.Operation.TheVariants as operation
use Rattle.ds_protocol.specs.declared.operations.OperationRefused.TheVariants as refused
use Rattle.ds_effects.specs.declared.effect.Due.TheVariants as dues
use Rattle.ds_effects.specs.declared.effect.Effect.TheVariants as effect
use Rattle.ds_machine.proofs.Plans.{due_refused, due_said, due_unrefused, printed-one}

-- ---- the call that an operation stands for

-- the operation's shard is there where its call's is
pub shard_there : (shards : ℕ) (o : Operation) (c : Call) → IsOperationOf c o → has_shard shards c ≡ true
    → has_shard shards (call_of o) ≡ true
shard_there shards (operation.Apply shard) c of there = subst (λ x. has_shard shards x ≡ true) of there
shard_there shards _ c of there = refl

-- no id is asked for by a search
search_ids : (c : Call) (g : GatheredParts) (o : Result Asked.Search Body) → search_of c ≡ Some o → ids_of c g ≡ []
search_ids (call.Put key true properties) g o is = cc
search_ids (call.AllocateIds count) g o is = cc
search_ids _ g o is = refl

body_plain : (why : OperationRefused) → is_quiet (operation_body why) ≡ true
body_plain refused.NoMemory = refl
body_plain _ = refl

-- an id that isn't issued is told with the counter there is
not_issued : (c : Call) (id next : ℕ) → drawn_by_call c (body.IdNotIssued id next) ≡ []
not_issued (call.Put key true properties) id next = refl
not_issued _ id next = refl

module _ (st : StateParts) (s : Session) (client : ℕ) where
  -- a call that is refused whatever the definitions and the session
  pub always_due : (c : Call) (why : OperationRefused) (b v : Body) (e : Effect) → b ≡ v → v ≡ operation_body why → e ≡ effect.Nothing
      → (why ≡ refused.NoMemory) ⊎ IsAlwaysRefused c (operation_body why) → IsDuePlan st s client c [] b e
  always_due c why b v e told is same why_is = rw (told ∙ is, same) (by why_is) where
    by : (why ≡ refused.NoMemory) ⊎ IsAlwaysRefused c (operation_body why) → IsDuePlan st s client c [] (operation_body why) effect.Nothing
    by (inl memory) = inl (ap operation_body memory)
    by (inr (inl unread)) =
        inr (due_said st s client c (operation_body why) (Some (Err (operation_body why))) (body_plain why) unread (λ window. (refl, refl)))
    by (inr (inr always)) =
        inr (due_refused st s client c (operation_body why) (body_plain why) always.0 (always.1 st.store.definitions s))

  -- an id of its key that isn't drawn yet
  pub id_refused : (o : Operation) (id next : ℕ) → IsSession st s → refusal_of st.store.definitions s (call_of o) ≡ None
      → next ≡ st.store.next → Some id ≡ first_unissued next (written_path o) → (c : Call) → IsOperationOf c o
      → IsDuePlan st s client c [] (body.IdNotIssued id next) (effect.SeeNext next)
  id_refused (operation.Put e incomplete) id next seen none same is c of = rw (of, same)
      (due_unrefused _ _ _ _ _ _ refl
      (refl, refl, printed-one st.store.next, not_issued (call_of (operation.Put e incomplete)) id st.store.next) (omega arith) none
      (λ w x. x) (λ window. record { shown = seen.next_within; first = sym (rw same at is); raised = refl }))
  id_refused (operation.Delete key) id next seen none same is c of = rw (of, same)
      (due_unrefused _ _ _ _ _ _ refl
      (refl, refl, printed-one st.store.next, refl) (omega arith) none
      (λ w x. x) (λ window. record { shown = seen.next_within; first = sym (rw same at is); raised = refl }))
  id_refused _ id next seen none same is c of = cc

  -- what is due to an operation is due to each call that asks for it
  due_to_call : (o : Operation) (c : Call) (g : GatheredParts) (b : Body) (e : Effect) → IsOperationOf c o
      → IsDueFor st s client o g b e → IsDuePlan st s client c (ids_of c g) b e
  due_to_call (operation.Find r) c g b e of due = rw (search_ids c g (Ok (search_parts r)) of.exact) (due c of)
  due_to_call _ c g b e of due = subst (λ x. IsDuePlan st s client x (ids_of x g) b e) (sym of) due

  pub due_asked : (o : Operation) (g : GatheredParts) (d : Due) → IfReply d (λ p. IsDueFor st s client o g p.body p.effect)
      → IfReply d (λ p. (c : Call) → IsOperationOf c o → IsDuePlan st s client c (ids_of c g) p.body p.effect)
  due_asked o g (dues.Waits step) plan = tt
  due_asked o g (dues.Reply p) plan = λ c of. due_to_call o c g p.body p.effect of plan

  -- ---- the refusals that the definitions, the transaction and the request decide

  -- this is told of them
  abbrev pub Refuses : Operation → Option Body → Type 0
  Refuses o told = IsRefusal (refusal_of st.store.definitions s (call_of o)) told

  pub refused_for : (o : Operation) (b v : Body) (e : Effect) → b ≡ v → e ≡ effect.Nothing → is_quiet v ≡ true → Refuses o (Some v)
      → (c : Call) → IsOperationOf c o → IsDuePlan st s client c [] b e
  refused_for o b v e told same quiet refuses c of = rw (told, same) (by o of refuses) where
    by : (p : Operation) → IsOperationOf c p → Refuses p (Some v) → IsDuePlan st s client c [] v effect.Nothing
    by (operation.Find r) of (inl is) = cc
    by _ of (inl is) = rw of (inr (due_refused st s client _ v quiet refl (sym is)))
    by _ of (inr is) = inl cc

  pub unrefused_for : (o : Operation) → Refuses o None → refusal_of st.store.definitions s (call_of o) ≡ None
  unrefused_for o (inl is) = sym is
  unrefused_for o (inr is) = cc

  -- what is told of the definitions and of a transaction is told of the state's and the session's
  pub refuses_here : (definitions : List IndexDef) (t : Option Transaction) (o : Operation) (told : Option Body)
      → definitions ≡ st.store.definitions → t ≡ s.transaction
      → IsRefusal (refusal_of definitions (with_transaction t s) (call_of o)) told → Refuses o told
  refuses_here definitions t o told same_definitions same_transaction is = rw (same_definitions, same_transaction) at is

-- ---- what was asked

-- a place and views alone are gathered for a search
pub gathered_there : (st : StateParts) (s : Session) (o : Operation) (c : Call) (g : GatheredParts) → IsOperationOf c o
    → IsGathered st s c g
    → IsGathered st s (call_of o) g
gathered_there st s (operation.Find r) c g of is = record {
  place = is.place;
  first = IfSome_then g.first is.first (λ first low. (low.0, low.1, omega (arith, low.2)));
  applied = none g.applied;
  views = is.views;
}
  where
    none : (o : Option ℕ) → AppliedWithin st s (call_of (operation.Find r)) o
    none None = tt
    none (Some n) = tt
gathered_there st s _ c g of is = subst (λ x. IsGathered st s x g) of is
