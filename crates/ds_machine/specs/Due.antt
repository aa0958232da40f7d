-- What an open request has gathered by the steps of its client, and what its reply is once nothing is missing.
use Rattle.std.specs.Prelude.{◌≡◌, ◌⊎◌, ℕ, ◌+◌, ◌≤◌, ◌<◌, true, List, [], ◌∷◌, ◌++◌, Option, Some, None, Ok, IfSome, length, All, ⊤}
use Rattle.std.specs.List.{range_with_len}
use Rattle.ds_base.specs.Limits.{first_drawn_id}
use Rattle.ds_log.specs.declared.Commit.{Commit}
use Rattle.ds_request.specs.declared.call.Call.{Call}
use Rattle.ds_request.specs.declared.call.Call.TheVariants as call
use Rattle.ds_reply.specs.declared.reply.Body.{Body}
use Rattle.ds_reply.specs.declared.reply.Body.TheVariants as body
use Rattle.ds_model.specs.Answers.{BodyAnswers}
use Rattle.ds_model.specs.Groups.{IsSeenPlace}
use Rattle.ds_model.specs.Legal.{acknowledged_in, accepted_in, printed_next_in, drawn_by_call}
use Rattle.ds_model.specs.Sessions.{Session, count_of}
use Rattle.ds_protocol.specs.declared.operations.Operation.{Operation}
use Rattle.ds_protocol.specs.declared.operations.Operation.TheVariants as operation
use Rattle.ds_protocol.specs.Operations.{call_of, ids_asked}
use Rattle.ds_protocol.specs.Searches.{IsSearchOf}
use Rattle.ds_effects.specs.declared.effect.Effect.{Effect}
use Rattle.ds_effects.specs.Gathered.{GatheredParts}
use Rattle.ds_machine.specs.Effects.{IsAllowed, store_after, session_after}
use Rattle.ds_machine.specs.States.{StateParts, world}

abbrev pub ids_from : ℕ → Option ℕ → List ℕ
ids_from count None = []
ids_from count (Some first) = range_with_len first count

-- the ids that were drawn for a request
abbrev pub ids_of : Call → GatheredParts → List ℕ
ids_of (call.Put key true properties) g = ids_from 1 g.first
ids_of (call.AllocateIds count) g = ids_from count g.first
ids_of _ g = []

-- shard by shard, a count that was viewed isn't below the seen one and not above what is applied
abbrev pub AreViewed : List ℕ → List (Option ℕ) → List ℕ → Type 0
AreViewed [] [] [] = ⊤
AreViewed (c ∷ cs) (None ∷ views) (a ∷ counts) = AreViewed cs views counts
AreViewed (c ∷ cs) (Some n ∷ views) (a ∷ counts) = (c ≤ n) × (n ≤ a) × AreViewed cs views counts
AreViewed _ _ _ = ⊥

-- the count that an Apply of the request's own shard raised it to
abbrev pub AppliedWithin : StateParts → Session → Call → Option ℕ → Type 0
AppliedWithin st s c None = ⊤
AppliedWithin st s (call.Apply shard) (Some count) = (count_of s.counts shard < count) × (count ≤ count_of st.applied.counts shard)
AppliedWithin st s c (Some count) = ⊤

-- what was gathered is there, and isn't below what the client has seen
pub record IsGathered (st : StateParts) (s : Session) (c : Call) (g : GatheredParts) : Type 0 where
  pub place : IfSome g.place (IsSeenPlace st.store.journal s)
  pub first : IfSome g.first (λ first. (first_drawn_id ≤ first) × (s.next_id ≤ first) × (first + ids_asked c ≤ st.store.next))
  pub applied : AppliedWithin st s c g.applied
  pub views : AreViewed s.counts g.views st.applied.counts

-- What is said to a request whose ids were drawn before, and changed by it. It is an answer, its commits are acknowledged, and it tells
-- the drawn ids; none is drawn by it.
pub record IsDue (st : StateParts) (s : Session) (client : ℕ) (c : Call) (ids : List ℕ) (said : Body) (change : Effect) : Type 0 where
  pub answers : (window : Option ℕ)
      → BodyAnswers (world (store_after change st.store) window) s (Ok (record { client = client; call = c })) said
      (session_after change st.store s)
  pub allowed : IsAllowed change st s
  pub definitions : (store_after change st.store).definitions ≡ st.store.definitions
  pub shards : (store_after change st.store).shards ≡ st.store.shards
  pub next : (store_after change st.store).next ≡ st.store.next
  pub added : List Commit
  pub journal : (store_after change st.store).journal ≡ st.store.journal ++ added
  pub acknowledges : acknowledged_in said ≡ range_with_len (length st.store.journal + 1) (length added)
  pub draws : drawn_by_call c said ≡ ids
  pub accepts : All (λ id. id < st.store.next) (accepted_in said)
  pub prints : All (λ next. next ≤ st.store.next) (printed_next_in said)

-- this is due, or there was no memory to tell it
abbrev pub IsDuePlan : StateParts → Session → ℕ → Call → List ℕ → Body → Effect → Type 0
IsDuePlan st s client c ids said change = (said ≡ body.NoMemory) ⊎ IsDue st s client c ids said change

-- what is due to what is asked: to each call that a search is of, which draws no ids, and else to the operation's own call
abbrev pub IsDueFor : StateParts → Session → ℕ → Operation → GatheredParts → Body → Effect → Type 0
IsDueFor st s client (operation.Find search) g said change = (c : Call) → IsSearchOf c search → IsDuePlan st s client c [] said change
IsDueFor st s client o g said change = IsDuePlan st s client (call_of o) (ids_of (call_of o) g) said change
