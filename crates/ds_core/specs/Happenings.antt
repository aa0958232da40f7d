-- What happens in a run over single events: the steps that were taken, what there was before and after each, and what was said.
use Rattle.std.specs.Prelude.{◌≡◌, ℕ, ◌+◌, List, [], ◌∷◌, Option, Some, None, flat_map, map, replicate, slice_get}
use Rattle.std.specs.Prelude.{slice_set, unwrap_or}
use Rattle.std.specs.Option.{option_map}
use Rattle.ds_base.specs.Limits.{greatest_client}
use Rattle.ds_log.specs.declared.Commit.{Commit}
use Rattle.ds_request.specs.declared.call.Request.{Request}
use Rattle.ds_reply.specs.declared.reply.Reply.{Reply}
use Rattle.ds_model.specs.Sessions.{Session, first_id, first_sessions}
use Rattle.ds_effects.specs.declared.gathered.Step.{Step}
use Rattle.ds_core.specs.declared.event.Event.{Event}
use Rattle.ds_core.specs.declared.opened.Open.{Open}
use Rattle.ds_core.specs.Machines.{MachineParts}

-- what there is at one moment: the commits, how many entries of each shard are applied, the id counter, what each client has seen, and its
-- open request
pub record Moment : Type 0 where
  pub journal : List Commit
  pub counts : List ℕ
  pub next : ℕ
  pub sessions : List Session
  pub opens : List (Option Open)

-- a reply with its request
pub record Said : Type 0 where
  pub request : Request
  pub reply : Reply

-- one step of a client, the request that it was to open before it, what there was before both and after, and what was said
pub record Happening : Type 0 where
  pub step : Step
  pub client : ℕ
  pub begins : Option Request
  pub before : Moment
  pub after : Moment
  pub said : Option Said

-- the client's open request, else the one that the event begins
abbrev pub opening : Option Request → Option Request → Option Request
opening None begins = begins
opening (Some r) begins = Some r

abbrev pub asked_by : List (Option Request) → ℕ → Option Request
asked_by asked client = unwrap_or (slice_get asked client) None

-- the client's request stays open, or it is replied to and closed; those of other clients stay as they are
abbrev pub Speaks : Option Said → Option Request → List (Option Request) → ℕ → List (Option Request) → Type 0
Speaks None request before client after = after ≡ slice_set before client request
Speaks (Some said) request before client after = (request ≡ Some said.request) × (after ≡ slice_set before client None)

-- what is asked by open requests
abbrev pub asked_of : List (Option Open) → List (Option Request)
asked_of = map (option_map (λ o. o.request))

abbrev pub Happens : Happening → Type 0
Happens h =
    Speaks h.said (opening (asked_by (asked_of h.before.opens) h.client) h.begins) (asked_of h.before.opens) h.client
    (asked_of h.after.opens)

-- one after another, from one moment to another
abbrev pub Follow : Moment → List Happening → Moment → Type 0
Follow moment [] last = last ≡ moment
Follow moment (h ∷ hs) last = (h.before ≡ moment) × Happens h × Follow h.after hs last

abbrev pub event_of : Happening → Event
event_of h = record { step = h.step; client = h.client; begins = h.begins }

abbrev pub said_requests : Option Said → List Request
said_requests None = []
said_requests (Some said) = said.request ∷ []

abbrev pub said_replies : Option Said → List Reply
said_replies None = []
said_replies (Some said) = said.reply ∷ []

abbrev pub requests_in : List Happening → List Request
requests_in = flat_map (λ h. said_requests h.said)

abbrev pub replies_in : List Happening → List Reply
replies_in = flat_map (λ h. said_replies h.said)

-- no client has a request open
abbrev pub none_open : List (Option Open)
none_open = replicate (greatest_client + 1) None

-- nothing is committed or applied, no id is drawn, nothing is seen, and nothing asked
abbrev pub first_moment : ℕ → Moment
first_moment shards = record {
  journal = [];
  counts = replicate shards 0;
  next = first_id;
  sessions = first_sessions shards;
  opens = none_open;
}

-- ---- the steps of a machine

-- what there is in a machine
abbrev pub moment_of : MachineParts → Moment
moment_of m = record {
  journal = m.state.store.journal;
  counts = m.state.applied.counts;
  next = m.state.store.next;
  sessions = m.sessions;
  opens = m.opens;
}
