-- Which steps take effect, and when a request is replied to: what its client's step comes to for an open request.
use Rattle.std.specs.Prelude.{◌≡◌, ℕ, List, [], ◌∷◌, Option, Some, None, get_or, is_some, replicate, slice_set, true, ⊤}
use Rattle.std.specs.Option.{option_or}
use Rattle.ds_request.specs.declared.call.Request.{Request}
use Rattle.ds_model.specs.Sessions.{Session, first_session}
use Rattle.ds_protocol.specs.Operations.{IsOperationOf}
use Rattle.ds_effects.specs.declared.gathered.Step.{Step}
use Rattle.ds_effects.specs.declared.gathered.Step.TheVariants as steps
use Rattle.ds_effects.specs.Gathered.{GatheredParts}
use Rattle.ds_machine.specs.Gathering.{counts_by, gathered_by, shown_by}
use Rattle.ds_machine.specs.Missing.{Shown, missing}
use Rattle.ds_machine.specs.Told.{AreNumbersOf}
use Rattle.ds_core.specs.declared.opened.Open.{Open}
use Rattle.ds_core.specs.Happenings.{Happening, Moment, Said}
use Rattle.ds_core.specs.Steps.{with_gathered}

-- ---- what there is at a moment

-- what steps show of it, of so many shards
abbrev pub shown_at : ℕ → Moment → Shown
shown_at shards t = record { shards = shards; journal = t.journal; next = t.next; counts = t.counts }

-- what a client has seen
abbrev pub session_of : Moment → ℕ → Session
session_of t client = get_or t.sessions client (first_session 0)

-- its open request
abbrev pub open_of : Moment → ℕ → Option Open
open_of t client = get_or t.opens client None

-- what other clients have seen and asked stays
abbrev pub AreOthersSame : ℕ → Moment → Moment → Type 0
AreOthersSame client t u =
    (u.sessions ≡ slice_set t.sessions client (session_of u client)) × (u.opens ≡ slice_set t.opens client (open_of u client))

-- no commit is added, and nobody sees more
abbrev pub IsQuiet : Moment → Moment → Type 0
IsQuiet t u = (u.journal ≡ t.journal) × (u.sessions ≡ t.sessions)

-- ---- a request opens

abbrev pub nothing_gathered : ℕ → GatheredParts
nothing_gathered shards = record { place = None; first = None; applied = None; views = replicate shards None }

-- The client's open request, once the one that the event begins is opened: the one that was open, or else that one, which has gathered
-- nothing. It may be replied to at once, with no number but the id counter that there is.
abbrev pub Begun : Shown → Session → Option Open → Option Request → Option Said → Option Open → Type 0
Begun st s (Some o) begins said now = (said ≡ None) × (now ≡ Some o)
Begun st s None None said now = (said ≡ None) × (now ≡ None)
Begun st s None (Some r) None None = ⊥
Begun st s None (Some r) None (Some o) =
    (o.request ≡ r) × IsOperationOf r.call o.work.operation × (o.gathered ≡ nothing_gathered st.shards)
Begun st s None (Some r) (Some said) None =
    (said.request ≡ r) × AreNumbersOf st s (nothing_gathered st.shards) steps.Touch said.reply.body
Begun st s None (Some r) (Some said) (Some o) = ⊥

-- ---- a step is taken

-- what there is after the step of a client with this open request, before any reply: it draws the ids that the request calls for, and an
-- Apply applies the shard's next entry, whatever is asked
abbrev pub shown_then : Shown → Option Open → Step → Shown
shown_then st None step = record st { counts = counts_by st step }
shown_then st (Some o) step = shown_by st o.work.operation o.gathered step

-- what the request has gathered then
abbrev pub open_then : Shown → Option Open → Step → Option Open
open_then st None step = None
open_then st (Some o) step = Some (with_gathered (gathered_by st o.work.operation o.gathered step) o)

-- where a step is missing the request waits on, and nothing is said; and where none is, it is replied to, with the numbers that it has
-- gathered, and closed
abbrev pub Comes : Option Step → Shown → Session → Step → Open → Option Said → Option Open → Type 0
Comes (Some next) st s step o said now = (said ≡ None) × (now ≡ Some o)
Comes None st s step o None now = ⊥
Comes None st s step o (Some said) now =
    (said.request ≡ o.request) × (now ≡ None) × AreNumbersOf st s o.gathered step said.reply.body

abbrev pub Ends : Shown → Session → Step → Option Open → Option Said → Option Open → Type 0
Ends st s step None said now = (said ≡ None) × (now ≡ None)
Ends st s step (Some o) said now = Comes (missing st s o.work.operation o.gathered step) st s step o said now

-- what a client's step, once its request is opened, changes: it takes effect for the open request and may end it; a step that no request
-- waits for changes nothing but an applied entry
pub record Takes (shards : ℕ) (step : Step) (client : ℕ) (o : Option Open) (said : Option Said) (t u : Moment) : Type 0 where
  pub ends : Ends (shown_then (shown_at shards t) o step) (session_of t client) step (open_then (shown_at shards t) o step) said
      (open_of u client)
  pub next : u.next ≡ (shown_then (shown_at shards t) o step).next
  pub counts : u.counts ≡ (shown_then (shown_at shards t) o step).counts
  pub quiet : said ≡ None → IsQuiet t u
  pub others : AreOthersSame client t u

-- a request may open, and then a step is taken; at most one of both brings a reply
pub record IsTaken (shards : ℕ) (h : Happening) : Type 0 where
  pub between : Moment
  pub early : Option Said
  pub late : Option Said
  pub said : h.said ≡ option_or early late
  pub begun : Begun (shown_at shards h.before) (session_of h.before h.client) (open_of h.before h.client) h.begins early
      (open_of between h.client)
  pub shown : shown_at shards between ≡ shown_at shards h.before
  pub quiet : early ≡ None → IsQuiet h.before between
  pub others : AreOthersSame h.client h.before between
  pub takes : Takes shards h.step h.client (open_of between h.client) late between h.after

abbrev pub AreTaken : ℕ → List Happening → Type 0
AreTaken shards [] = ⊤
AreTaken shards (h ∷ hs) = IsTaken shards h × AreTaken shards hs

-- ---- the missing steps

-- the client's open request waits for this step
abbrev pub WaitsFor : Shown → Session → Option Open → Step → Type 0
WaitsFor st s None step = ⊥
WaitsFor st s (Some o) step = missing st s o.work.operation o.gathered steps.Touch ≡ Some step

-- the step that it waits for, if it is open
abbrev pub IsNextOf : Shown → Session → Option Open → Option Step → Type 0
IsNextOf st s o None = o ≡ None
IsNextOf st s o (Some step) = WaitsFor st s o step

-- a step that opens no request, and for which its client's open request waits
abbrev pub IsMissing : ℕ → Happening → Type 0
IsMissing shards h =
    (h.begins ≡ None) × WaitsFor (shown_at shards h.before) (session_of h.before h.client) (open_of h.before h.client) h.step

-- ---- no open request is left without a step

-- an open request waits for a step
abbrev pub IsWaiting : Shown → Session → Option Open → Type 0
IsWaiting st s None = ⊤
IsWaiting st s (Some o) = is_some (missing st s o.work.operation o.gathered steps.Touch) ≡ true

-- each does
abbrev pub AreWaiting : ℕ → Moment → Type 0
AreWaiting shards t = (client : ℕ) → IsWaiting (shown_at shards t) (session_of t client) (open_of t client)
