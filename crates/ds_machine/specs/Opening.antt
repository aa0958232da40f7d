-- What is kept of a request that waits for steps of its client.
use Rattle.std.specs.Prelude.{◌≡◌, ℕ, [], Option, Some, None, IsTrue, ⊤}
use Rattle.ds_log.specs.Ids.{first_unissued}
use Rattle.ds_request.specs.declared.call.Call.{Call}
use Rattle.ds_model.specs.Asked.{has_shard}
use Rattle.ds_model.specs.Refusals.{ancestor_group_refusal, refusal_of}
use Rattle.ds_model.specs.Sessions.{Session}
use Rattle.ds_protocol.specs.declared.operations.Operation.{Operation}
use Rattle.ds_protocol.specs.declared.operations.Operation.TheVariants as operation
use Rattle.ds_protocol.specs.declared.preparing.Ready.{Ready}
use Rattle.ds_protocol.specs.Operations.{IsLawfulOperation, IsOperationOf, call_of, written_path}
use Rattle.ds_effects.specs.declared.effect.Plan.{Plan}
use Rattle.ds_machine.specs.Due.{IsDuePlan}
use Rattle.ds_machine.specs.Queries.{IsPrepared}
use Rattle.ds_machine.specs.States.{StateParts}
use Rattle.ds_machine.specs.Told.{is_silent}

-- a search is prepared, and its group may be touched
abbrev pub IsReadyFor : StateParts → Session → Operation → Option Ready → Type 0
IsReadyFor st s (operation.Find search) (Some ready) =
    IsPrepared st s search ready × (ancestor_group_refusal s.transaction search.query.ancestor ≡ None)
IsReadyFor st s (operation.Find search) None = ⊥
IsReadyFor st s _ ready = ⊤

-- nothing refuses it but what a step may find: its ids were tested, its search is made ready, and its shard is there
pub record IsUnrefused (st : StateParts) (s : Session) (o : Operation) (made : Option Ready) : Type 0 where
  pub lawful : IsLawfulOperation o
  pub shard : IsTrue (has_shard st.store.shards (call_of o))
  pub unrefused : refusal_of st.store.definitions s (call_of o) ≡ None
  pub issued : first_unissued st.store.next (written_path o) ≡ None
  pub ready : IsReadyFor st s o made

-- a refusal at the opening: due to any client's call that asks it, it tells no number of a step and changes nothing but the id counter
-- that is shown
pub record IsRefusedIn (st : StateParts) (s : Session) (o : Operation) (p : Plan) : Type 0 where
  pub plan : (client : ℕ) (c : Call) → IsOperationOf c o → IsDuePlan st s client c [] p.body p.effect
  pub silent : IsTrue (is_silent st p.body p.effect)
