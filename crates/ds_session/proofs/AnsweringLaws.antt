-- What a request asks, once it is taken apart: its refusals, and that it takes no step.
use Rattle.std.proofs.Common.{◌≡◌, ◌⊎◌, inl, inr, ℕ, List, refl, ap, sym, ◌∙◌, subst, true, Option, Some, None}
use Rattle.std.specs.Prelude.{IsTrue, Ok, Err, Result}
use Rattle.ds_indexdef.specs.declared.IndexDef.{IndexDef}
use Rattle.ds_request.specs.declared.call.Call.{Call}
use Rattle.ds_request.specs.declared.call.Call.TheVariants as call
use Rattle.ds_reply.specs.declared.reply.Body.{Body}
use Rattle.ds_reply.specs.declared.reply.Body.TheVariants as body
use Rattle.ds_model.specs.Answers.{RequestAnswers}
use Rattle.ds_model.specs.Asked.{Search, has_shard, search_of}
use Rattle.ds_model.specs.Refusals.{refusal_of}
use Rattle.ds_model.specs.Sessions.{Session}
use Rattle.ds_protocol.specs.Operations.{IsAlwaysRefused, IsOperationOf, call_of}
use Rattle.ds_protocol.specs.Refused.{IsRefusal, is_quiet, operation_body}
use Rattle.ds_protocol.specs.declared.operations.Operation.{Operation}
use Rattle.ds_protocol.specs.declared.operations.Operation.TheVariants as operation
use Rattle.ds_protocol.specs.declared.operations.OperationRefused.{OperationRefused}
use Rattle.ds_protocol.specs.declared.operations.OperationRefused.TheVariants as refused
use Rattle.ds_session_state.specs.Refusing.{IsRefusedWith}
use Rattle.ds_session_state.specs.Replying.{request_of}
use Rattle.ds_session_state.specs.Sessions.{SessionParts}
use Rattle.ds_session_reads.specs.Steps.{IsWithinSteps, SearchSteps}
use Rattle.ds_session_state.proofs.SayingLaws.{call_refused}

some-same : (b refusal : Body) → Some b ≡ Some refusal → b ≡ refusal
some-same b refusal is = cc

-- ---- refusals

quiet-operation : (why : OperationRefused) → is_quiet (operation_body why) ≡ true
quiet-operation refused.BadKey = refl
quiet-operation refused.BadValue = refl
quiet-operation (refused.TooLarge size) = refl
quiet-operation (refused.BadGql place) = refl
quiet-operation refused.NoMemory = refl

module _ (definitions : List IndexDef) (shards client : ℕ) (s : Session) where
  -- a call that asks nothing that could be done
  pub always_refused : (c : Call) (why : OperationRefused)
      → ((why ≡ refused.NoMemory) ⊎ IsAlwaysRefused c (operation_body why))
      → IsRefusedWith definitions shards s (request_of client c) (operation_body why)
  always_refused c why (inl none) = record { quiet = quiet-operation why; answers = λ w of. inl (ap operation_body none) }
  always_refused c why (inr (inl unread)) = record {
    quiet = quiet-operation why;
    answers = λ w of. inr (subst (λ o. RequestAnswers w client s c o (operation_body why) s) (sym unread) (refl, refl));
  }
  always_refused c why (inr (inr (no_search, is))) = record {
    quiet = quiet-operation why;
    answers = λ w of. inr (call_refused w s (record { client = client; call = c }) (operation_body why) no_search (is w.definitions s));
  }

  told_first : (c k : Call) (b : Body) → c ≡ k → search_of k ≡ None → IsRefusal (refusal_of definitions s k) (Some b) → is_quiet b ≡ true
      → IsRefusedWith definitions shards s (request_of client c) b
  told_first c k b same no_search (inr none) quiet = record { quiet = quiet; answers = λ w of. inl (some-same b body.NoMemory none) }
  told_first c k b same no_search (inl told) quiet = record {
    quiet = quiet;
    answers = λ w of. inr (call_refused w s (record { client = client; call = c }) b (ap search_of same ∙ no_search)
        (ap (λ ds. refusal_of ds s c) of ∙ ap (refusal_of definitions s) same ∙ sym told));
  }

  -- the first refusal of an operation
  pub refused_first : (c : Call) (o : Operation) (b : Body) → IsOperationOf c o
      → IsRefusal (refusal_of definitions s (call_of o)) (Some b) → is_quiet b ≡ true
      → IsRefusedWith definitions shards s (request_of client c) b
  refused_first c (operation.Put entity incomplete) b is told quiet = told_first c (call.Put entity.key incomplete entity.properties) b is
      refl told quiet
  refused_first c (operation.Delete key) b is told quiet = told_first c (call.Delete key) b is refl told quiet
  refused_first c (operation.Get key) b is told quiet = told_first c (call.Get key) b is refl told quiet
  refused_first c (operation.Find search) b is (inl told) quiet = cc
  refused_first c (operation.Find search) b is (inr none) quiet =
      record { quiet = quiet; answers = λ w of. inl (some-same b body.NoMemory none) }
  refused_first c (operation.Begin several) b is told quiet = told_first c (call.Begin several) b is refl told quiet
  refused_first c operation.Commit b is told quiet = told_first c call.Commit b is refl told quiet
  refused_first c operation.Rollback b is told quiet = told_first c call.Rollback b is refl told quiet
  refused_first c operation.Settle b is told quiet = told_first c call.Settle b is refl told quiet
  refused_first c (operation.AllocateIds count) b is told quiet = told_first c (call.AllocateIds count) b is refl told quiet
  refused_first c (operation.Apply shard) b is told quiet = told_first c (call.Apply shard) b is refl told quiet

-- nothing refuses it first
pub unrefused : (refusal : Option Body) → IsRefusal refusal None → refusal ≡ None
unrefused refusal (inl told) = sym told
unrefused refusal (inr none) = cc

-- the operation's shard is the call's
pub same_shard : (shards : ℕ) (c : Call) (o : Operation) → IsOperationOf c o → IsTrue (has_shard shards c)
    → IsTrue (has_shard shards (call_of o))
same_shard shards c (operation.Find search) is has = refl
same_shard shards c (operation.Put entity incomplete) is has = refl
same_shard shards c (operation.Delete key) is has = refl
same_shard shards c (operation.Get key) is has = refl
same_shard shards c (operation.Begin several) is has = refl
same_shard shards c operation.Commit is has = refl
same_shard shards c operation.Rollback is has = refl
same_shard shards c operation.Settle is has = refl
same_shard shards c (operation.AllocateIds count) is has = refl
same_shard shards c (operation.Apply shard) is has = subst (λ k. IsTrue (has_shard shards k)) is has

-- ---- steps

-- where no step was taken
pub no_steps : (definitions : List IndexDef) (window shards number client : ℕ) (c : Call) (before after : SessionParts) (old new : ℕ)
    → new ≡ old → IsWithinSteps definitions window shards number (request_of client c) before after old new
no_steps definitions window shards number client c before after old new same = by (search_of c) where
  by : (o : Option (Result Search Body)) → SearchSteps definitions window shards number c o before after old new
  by None = inl same
  by (Some (Err refusal)) = same
  by (Some (Ok search)) = inl same
