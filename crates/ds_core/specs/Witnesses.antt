-- What open requests have gathered and what transactions have touched comes from what happened; and what a machine's calls change.
use Rattle.std.specs.Prelude.{◌≡◌, ◌⊎◌, ℕ, ◌+◌, List, [], ◌++◌, All, Option, Some, None, IfSome, length, slice_get, slice_set, ⊤}
use Rattle.std.specs.List.{range_with_len}
use Rattle.ds_base.specs.Keys.{KeyParts}
use Rattle.ds_log.specs.declared.Commit.{Commit}
use Rattle.ds_request.specs.declared.call.Call.{Call}
use Rattle.ds_request.specs.declared.call.Call.TheVariants as call
use Rattle.ds_request.specs.declared.call.Request.{Request}
use Rattle.ds_reply.specs.declared.reply.Body.{Body}
use Rattle.ds_reply.specs.declared.reply.Body.TheVariants as body
use Rattle.ds_reply.specs.declared.reply.Reply.{Reply}
use Rattle.ds_model.specs.Groups.{place_in}
use Rattle.ds_model.specs.Legal.{acknowledged_in, drawn_by_call}
use Rattle.ds_model.specs.Sessions.{Session}
use Rattle.ds_effects.specs.declared.gathered.Step.{Step}
use Rattle.ds_effects.specs.declared.gathered.Step.TheVariants as steps
use Rattle.ds_effects.specs.Gathered.{GatheredParts}
use Rattle.ds_machine.specs.Due.{ids_of}
use Rattle.ds_machine.specs.Missing.{Shown, shown}
use Rattle.ds_machine.specs.States.{StateParts}
use Rattle.ds_machine.specs.Told.{IsTouchedPlace}
use Rattle.ds_protocol.specs.Operations.{IsOperationOf, ids_asked}
use Rattle.ds_core.specs.declared.opened.Open.{Open}
use Rattle.ds_core.specs.Happenings.{Follow, Happening, Moment, Said, first_moment, moment_of, replies_in, requests_in, said_replies}
use Rattle.ds_core.specs.Happenings.{said_requests}
use Rattle.ds_core.specs.Machines.{MachineParts}
use Rattle.ds_core.specs.Takings.{AreOthersSame, AreTaken, Begun, Ends, IsMissing, IsQuiet, nothing_gathered, open_of, open_then}
use Rattle.ds_core.specs.Takings.{session_of, shown_at, shown_then}
use Rattle.ds_core.specs.Timelines.{AreMoves, AreTimely, IsApply, IsIssue, IsTouch, IsView, Occurs}

-- ---- where it comes from

-- What a request has gathered is what steps of its client gave: a place, the ids that it asks for, the count to which an Apply of its own
-- shard raised it, and counts that were viewed.
pub record IsGatheredThen (hs : List Happening) (client : ℕ) (c : Call) (g : GatheredParts) : Type 0 where
  pub place : (place : ℕ) → g.place ≡ Some place → Occurs (IsTouch client place) hs
  pub first : (first : ℕ) → g.first ≡ Some first → Occurs (IsIssue client (ids_asked c) first) hs
  pub applied : (shard count : ℕ) → c ≡ call.Apply shard → g.applied ≡ Some count → Occurs (IsApply client shard count) hs
  pub views : (shard count : ℕ) → slice_get g.views shard ≡ Some (Some count) → Occurs (IsView client shard count) hs

-- that of a client's open request, whose call was taken apart
abbrev pub IsOpenThen : List Happening → ℕ → Option Open → Type 0
IsOpenThen hs client None = ⊤
IsOpenThen hs client (Some o) = IsOperationOf o.request.call o.work.operation × IsGatheredThen hs client o.request.call o.gathered

-- each place at which the client's transaction touched a group is that of a Touch of the client
abbrev pub IsTouchedThen : List Happening → ℕ → Session → Type 0
IsTouchedThen hs client s = (group : KeyParts) (place : ℕ) → place_in s.transaction group ≡ Some place → Occurs (IsTouch client place) hs

-- of each client
abbrev pub AreWitnessed : List Happening → Moment → Type 0
AreWitnessed hs t = (client : ℕ) → IsOpenThen hs client (open_of t client) × IsTouchedThen hs client (session_of t client)

-- ---- what a machine's calls change

-- what there is, and what was asked and said so far
pub record Course : Type 0 where
  pub moment : Moment
  pub requests : List Request
  pub replies : List Reply

abbrev pub course_of : MachineParts → Course
course_of m = record { moment = moment_of m; requests = m.requests; replies = m.replies }

-- where the body is an apply's, the request is one of the printed shard
abbrev pub OfShard : Call → Body → Type 0
OfShard c (body.Apply applied count m shard) = c ≡ call.Apply shard
OfShard c _ = ⊤

-- What a reply stands on beside its numbers, where the client's session and the journal become others: it tells the drawn ids; after it no
-- group is touched but at a place that was gathered or touched before; and the journal takes the acknowledged commits, by a Commit alone.
pub record StandsOn (client : ℕ) (step : Step) (g : GatheredParts) (x : Said) (s later : Session) (old new : List Commit) : Type 0 where
  pub own : x.request.client ≡ client
  pub draws : drawn_by_call x.request.call x.reply.body ≡ ids_of x.request.call g
  pub shard : OfShard x.request.call x.reply.body
  pub touches : (group : KeyParts) (place : ℕ) → place_in later.transaction group ≡ Some place → IsTouchedPlace s g place
  pub added : List Commit
  pub journal : new ≡ old ++ added
  pub acknowledges : acknowledged_in x.reply.body ≡ range_with_len (length old + 1) (length added)
  pub commits : (step ≡ steps.Commit) ⊎ (new ≡ old)

-- what becomes of a client's open request, where a reply tells what was gathered, and the counter and the counts are those shown
pub record Changes (client : ℕ) (step : Step) (st : Shown) (g : GatheredParts) (Becomes : Option Said → Option Open → Type 0)
    (old new : Course) : Type 0 where
  pub said : Option Said
  pub requests : new.requests ≡ old.requests ++ said_requests said
  pub replies : new.replies ≡ old.replies ++ said_replies said
  pub becomes : Becomes said (open_of new.moment client)
  pub next : new.moment.next ≡ st.next
  pub counts : new.moment.counts ≡ st.counts
  pub quiet : said ≡ None → IsQuiet old.moment new.moment
  pub others : AreOthersSame client old.moment new.moment
  pub stands : IfSome said (λ x. StandsOn client step g x (session_of old.moment client) (session_of new.moment client)
      old.moment.journal new.moment.journal)

abbrev pub gathered_of : Option Open → GatheredParts
gathered_of None = nothing_gathered 0
gathered_of (Some o) = o.gathered

-- a step of a client: its open request, if there is one, gathers what it calls for
abbrev pub SteppedTo : Step → StateParts → Option Open → StateParts → Option Open → Type 0
SteppedTo step st old new now =
    (now ≡ open_then (shown st) old step) × (new.store ≡ record (st.store) { next = (shown_then (shown st) old step).next })
    × (new.applied.counts ≡ (shown_then (shown st) old step).counts)

-- once a step was taken: what the client's open request comes to
abbrev pub Advances : ℕ → Step → ℕ → Course → Course → Type 0
Advances shards step client old new =
    Changes client step (shown_at shards old.moment) (gathered_of (open_of old.moment client))
    (Ends (shown_at shards old.moment) (session_of old.moment client) step (open_of old.moment client)) old new

-- a request opens, and may be replied to at once
abbrev pub OpensAt : ℕ → ℕ → Option Request → Course → Course → Type 0
OpensAt shards client begins old new =
    Changes client steps.Touch (shown_at shards old.moment) (nothing_gathered shards)
    (Begun (shown_at shards old.moment) (session_of old.moment client) (open_of old.moment client) begins) old new

-- a step, and what the client's open request gathers by it
abbrev pub stepped : ℕ → Step → ℕ → Course → Course
stepped shards step client c = record c {
  moment = record (c.moment) {
    counts = (shown_then (shown_at shards c.moment) (open_of c.moment client) step).counts;
    next = (shown_then (shown_at shards c.moment) (open_of c.moment client) step).next;
    opens = slice_set c.moment.opens client (open_then (shown_at shards c.moment) (open_of c.moment client) step);
  };
}

-- a step is taken, with what it gathers and the reply that it may bring
abbrev pub TakesAt : ℕ → Step → ℕ → Course → Course → Type 0
TakesAt shards step client old new =
    (length old.moment.counts ≡ shards) × Advances shards step client (stepped shards step client old) new

-- an event happens: a request may open, and then a step is taken
pub record HappensAt (shards : ℕ) (step : Step) (client : ℕ) (begins : Option Request) (old new : Course) : Type 0 where
  pub between : Course
  pub opens : OpensAt shards client begins old between
  pub takes : TakesAt shards step client between new

-- ---- a run so far

-- how it came to what there is and to what was said so far
pub record IsPast (shards : ℕ) (c : Course) (hs : List Happening) : Type 0 where
  pub follow : Follow (first_moment shards) hs c.moment
  pub requests : c.requests ≡ requests_in hs
  pub replies : c.replies ≡ replies_in hs
  pub takes : AreTaken shards hs
  pub moves : AreMoves shards hs
  pub timely : AreTimely [] hs
  pub witnessed : AreWitnessed hs c.moment

-- steps were taken that open requests had still to take
pub record GoesOn (shards : ℕ) (old new : Course) : Type 0 where
  pub more : List Happening
  pub past : (hs : List Happening) → IsPast shards old hs → IsPast shards new (hs ++ more) × All (IsMissing shards) more
