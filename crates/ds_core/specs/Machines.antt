-- What a machine of events keeps, and that what it has said so far is one legal round.
use Rattle.std.specs.Prelude.{◌≡◌, ◌≢◌, ◌⊎◌, ℕ, ◌+◌, ◌-◌, ◌≤◌, ◌<◌, List, [], ◌∷◌, ◌++◌, Option, Some, None, length, All, IsTrue, ⊤}
use Rattle.std.specs.Prelude.{flat_map, get_or, replicate, slice_set, IfSome, IsPermutation}
use Rattle.std.specs.List.{range_with_len}
use Rattle.ds_base.specs.Limits.{greatest_client, most_shards}
use Rattle.ds_log.specs.declared.Commit.{Commit}
use Rattle.ds_request.specs.declared.call.Request.{Request}
use Rattle.ds_request.specs.Lawful.{IsLawfulCall}
use Rattle.ds_reply.specs.declared.reply.Body.{Body}
use Rattle.ds_reply.specs.declared.reply.Body.TheVariants as body
use Rattle.ds_reply.specs.declared.reply.Reply.{Reply}
use Rattle.ds_model.specs.Asked.{has_shard}
use Rattle.ds_model.specs.Legal.{acknowledged, accepted, printed_next}
use Rattle.ds_model.specs.Sessions.{Session, first_id, first_session, first_sessions}
use Rattle.ds_request.specs.declared.call.Call.{Call}
use Rattle.ds_protocol.specs.Operations.{IsOperationOf}
use Rattle.ds_effects.specs.declared.effect.Due.{Due}
use Rattle.ds_effects.specs.declared.effect.Due.TheVariants as due
use Rattle.ds_effects.specs.declared.gathered.Step.{Step}
use Rattle.ds_machine.specs.declared.opening.Work.{Work}
use Rattle.ds_machine.specs.Missing.{missing, shown}
use Rattle.ds_machine.specs.Opening.{IsUnrefused}
use Rattle.ds_effects.specs.declared.effect.Effect.{Effect}
use Rattle.ds_machine.specs.Due.{IsDuePlan, IsGathered, ids_of}
use Rattle.ds_machine.specs.Effects.{store_after, session_after}
use Rattle.ds_machine.specs.States.{StateParts, IsSession, world}
use Rattle.ds_machine.specs.Told.{IsTold}
use Rattle.ds_core.specs.declared.event.Event.{Event}
use Rattle.ds_core.specs.declared.machine.Machine.{Machine}
use Rattle.ds_core.specs.declared.opened.Open.{Open}
use Rattle.ds_core.specs.Rounds.{AreAnswered, AreNumbered, drawn_ids}

-- the store with what its shards have applied, what each client has seen, its open request, and what was asked and said so far
pub record MachineParts : Type 0 where
  pub state : StateParts
  pub sessions : List Session
  pub opens : List (Option Open)
  pub requests : List Request
  pub replies : List Reply

abbrev pub parts : Machine → MachineParts
parts m = record { state = m.state; sessions = m.sessions.items; opens = m.opens.items; requests = m.requests; replies = m.replies }

-- the ids that were drawn for an open request
abbrev pub held_by : Option Open → List ℕ
held_by None = []
held_by (Some o) = ids_of o.request.call o.gathered

abbrev pub held : List (Option Open) → List ℕ
held = flat_map held_by

-- the call was taken apart, and nothing refuses it but what a step may find
abbrev pub IsWorkOf : StateParts → Session → Call → Work → Type 0
IsWorkOf st s c w = IsOperationOf c w.operation × IsUnrefused st s w.operation w.ready

-- a client's open request is lawful and its own, nothing refused it at its opening, and what it has gathered is there
abbrev pub IsOpen : StateParts → ℕ → Session → Option Open → Type 0
IsOpen st client s None = ⊤
IsOpen st client s (Some o) =
    (o.request.client ≡ client) × IsLawfulCall o.request.call × IsTrue (has_shard st.store.shards o.request.call)
    × IsGathered st s o.request.call o.gathered × IsWorkOf st s o.request.call o.work

-- what a client has seen, and its open request
abbrev pub session_in : MachineParts → ℕ → Session
session_in m client = get_or m.sessions client (first_session 0)

abbrev pub open_in : MachineParts → ℕ → Option Open
open_in m client = get_or m.opens client None

-- what was said so far is answers, over every journal that begins with the one now
pub record IsLegal (m : MachineParts) : Type 0 where
  pub least : 1 ≤ m.state.store.shards
  pub most : m.state.store.shards ≤ most_shards
  pub clients : length m.sessions ≡ greatest_client + 1
  pub places : length m.opens ≡ greatest_client + 1
  pub opens : (client : ℕ) → client ≤ greatest_client
      → IsSession m.state (session_in m client) × IsOpen m.state client (session_in m client) (open_in m client)
  pub answered : (window : Option ℕ) (more : List Commit)
      → AreAnswered (world (record (m.state.store) { journal = m.state.store.journal ++ more }) window)
      (first_sessions m.state.store.shards) m.requests m.replies m.sessions
  pub numbered : AreNumbered 1 m.requests m.replies
  pub acknowledges : flat_map acknowledged m.replies ≡ range_with_len 1 (length m.state.store.journal)
  pub from_first : first_id ≤ m.state.store.next
  pub draws : IsPermutation (drawn_ids m.requests m.replies ++ held m.opens) (range_with_len first_id (m.state.store.next - first_id))
  pub accepts : All (λ id. id < m.state.store.next) (flat_map accepted m.replies)
  pub prints : All (λ next. next ≤ m.state.store.next) (flat_map printed_next m.replies)

-- a request that has gathered nothing
abbrev pub just_opened : Request → Work → ℕ → Open
just_opened r work shards = record {
  request = r;
  work = work;
  gathered = record { place = None; first = None; applied = None; views = replicate shards None };
}

-- this is due and told to the open request, by what it has gathered and the step just taken, where no step is missing; or there was no
-- memory
pub record IsReplyTo (st : StateParts) (s : Session) (client : ℕ) (taken : Step) (o : Open) (said : Body) (change : Effect) : Type 0 where
  pub due : IsDuePlan st s client o.request.call (ids_of o.request.call o.gathered) said change
  pub told : IsTold st s o.gathered taken said change
  pub next : (missing (shown st) s o.work.operation o.gathered taken ≡ None) ⊎ (said ≡ body.NoMemory)

-- what the open request, if there is one, comes to: its reply is due to it, or it waits for the missing step
abbrev pub IsDueNow : StateParts → Session → ℕ → Step → Option Open → Option Due → Type 0
IsDueNow st s client taken None d = d ≡ None
IsDueNow st s client taken (Some o) None = ⊥
IsDueNow st s client taken (Some o) (Some (due.Waits next)) = missing (shown st) s o.work.operation o.gathered taken ≡ Some next
IsDueNow st s client taken (Some o) (Some (due.Reply p)) = IsReplyTo st s client taken o p.body p.effect

-- the index definitions and the number of shards stay
abbrev pub IsSameRun : MachineParts → MachineParts → Type 0
IsSameRun old new =
    (new.state.store.definitions ≡ old.state.store.definitions) × (new.state.store.shards ≡ old.state.store.shards)

-- a request of this client that can be opened
abbrev pub IsLawfulRequest : ℕ → ℕ → Request → Type 0
IsLawfulRequest shards client r = (r.client ≡ client) × IsLawfulCall r.call × IsTrue (has_shard shards r.call)

-- an event of one of the clients, whose request, if it begins one, is its client's
abbrev pub IsLawfulEvent : ℕ → Event → Type 0
IsLawfulEvent shards e = (e.client ≤ greatest_client) × IfSome e.begins (IsLawfulRequest shards e.client)

-- ---- what a reply changes

-- it takes effect on the store and on what its client has seen
abbrev pub performed : Effect → ℕ → MachineParts → MachineParts
performed change client m = record m {
  state = record (m.state) { store = store_after change m.state.store };
  sessions = slice_set m.sessions client (session_after change m.state.store (session_in m client));
}

-- the client's open request is closed
abbrev pub closing : ℕ → MachineParts → MachineParts
closing client m = record m { opens = slice_set m.opens client None }

-- its request and it stand behind the others
abbrev pub noted : ℕ → Request → Body → MachineParts → MachineParts
noted client r said m = record m {
  requests = m.requests ++ r ∷ [];
  replies = m.replies ++ record { client = client; line = length m.replies + 1; body = said } ∷ [];
}

-- a request is told this, which takes effect
abbrev pub IsToldAs : ℕ → Request → Body → Effect → MachineParts → MachineParts → Type 0
IsToldAs client r said change old new = (said ≢ body.NoMemory) × (new ≡ noted client r said (performed change client old))

-- the client's open request is closed and told this
abbrev pub IsToldOpen : ℕ → Body → Effect → MachineParts → MachineParts → Type 0
IsToldOpen client said change old new =
    (o : Open) × (open_in old client ≡ Some o) × IsToldAs client o.request said change (closing client old) new
