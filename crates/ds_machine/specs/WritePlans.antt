-- What a put or a delete says and changes, told of its one write.
use Rattle.std.specs.Prelude.{◌≡◌, ◌⊎◌, ℕ, ◌+◌, Bool, List, ◌++◌, Option, Some, None, length}
use Rattle.std.specs.List.{range_with_len}
use Rattle.ds_entity.specs.Entities.{EntityParts}
use Rattle.ds_base.specs.Keys.{KeyParts}
use Rattle.ds_log.specs.declared.Commit.{Commit}
use Rattle.ds_log.specs.declared.Write.{Write}
use Rattle.ds_log.specs.Ids.{first_unissued}
use Rattle.ds_log.specs.Logs.{key_of, group_of}
use Rattle.ds_request.specs.declared.call.Call.TheVariants as call
use Rattle.ds_reply.specs.declared.reply.Body.{Body}
use Rattle.ds_reply.specs.declared.reply.Body.TheVariants as body
use Rattle.ds_reply.specs.declared.reply.WriteAt.{WriteAt}
use Rattle.ds_model.specs.Answers.{WriteAnswers}
use Rattle.ds_model.specs.Groups.{group_refusal, write_refusal}
use Rattle.ds_model.specs.Legal.{written_commit}
use Rattle.ds_model.specs.Refusals.{refusal_of}
use Rattle.ds_model.specs.Sessions.{Session}
use Rattle.ds_effects.specs.declared.effect.Effect.{Effect}
use Rattle.ds_effects.specs.declared.effect.Effect.TheVariants as effect
use Rattle.ds_machine.specs.Effects.{IsAllowed, store_after, session_after}
use Rattle.ds_machine.specs.States.{StateParts, world}

-- a write that nothing refuses: its group may be touched, the transaction has room for it, and the ids of its key are issued
pub record IsWritable (st : StateParts) (s : Session) (write : Write) : Type 0 where
  pub group : group_refusal s.transaction (Some (group_of write)) ≡ None
  pub few : write_refusal s.transaction ≡ None
  pub issued : first_unissued st.store.next (key_of write).elems ≡ None

-- where a write stands, and what it changes: the definitions' answer to it, and at most one commit more, which is acknowledged
pub record IsWritePlan (st : StateParts) (s : Session) (client : ℕ) (write : Write) (at : WriteAt) (change : Effect) : Type 0 where
  pub answers : (window : Option ℕ)
      → WriteAnswers (world (store_after change st.store) window) client s s.transaction write (key_of write) at
      (session_after change st.store s)
  pub allowed : IsAllowed change st s
  pub definitions : (store_after change st.store).definitions ≡ st.store.definitions
  pub shards : (store_after change st.store).shards ≡ st.store.shards
  pub added : List Commit
  pub journal : (store_after change st.store).journal ≡ st.store.journal ++ added
  pub acknowledges : written_commit at ≡ range_with_len (length st.store.journal + 1) (length added)
  pub next : (store_after change st.store).next ≡ st.store.next

-- what is said of a write, by its key and where it stands; or that there was no memory
abbrev pub SaysWrite : (KeyParts → WriteAt → Body) → StateParts → Session → ℕ → Write → Body → Effect → Type 0
SaysWrite says st s client write said change =
    ((said ≡ body.NoMemory) × (change ≡ effect.Nothing))
    ⊎ ((at : WriteAt) × (said ≡ says (key_of write) at) × IsWritePlan st s client write at change)

-- a put that nothing but the want of further ids refuses
pub record IsChecked (st : StateParts) (s : Session) (e : EntityParts) (incomplete : Bool) : Type 0 where
  pub unrefused : refusal_of st.store.definitions s (call.Put e.key incomplete e.properties) ≡ None
  pub issued : first_unissued st.store.next e.key.elems ≡ None
