-- The world of n members, and its step.
use Rattle.std.specs.Prelude.{ℕ, ◌-◌, ◌^◌, List, [], ◌++◌, length, set, get_or, replicate, slice_get, nat_lt, Option, Some, None, Result, Ok, Err}
use Rattle.std.specs.Prelude.{◌<◌, if◌then◌else◌}
use Rattle.std.specs.List.{All}
use Rattle.ds_paxos.specs.declared.change.Change.{Change}
use Rattle.ds_paxos.specs.declared.event.Event.{Event}
use Rattle.ds_paxos.specs.declared.event.Event.TheVariants.{Propose, Deliver, Restart}
use Rattle.ds_paxos.specs.declared.event.StepRefused.{StepRefused}
use Rattle.ds_paxos.specs.declared.event.StepRefused.TheVariants.{NoMember, NoMessage, NoBallot}
use Rattle.ds_paxos.specs.declared.instance.Instance.{Instance}
use Rattle.ds_paxos.specs.declared.message.Message.{Message}
use Rattle.ds_paxos.specs.declared.message.Place.{Place}
use Rattle.ds_paxos.specs.Members.{instance_in, restarted, with_instance}
use Rattle.ds_paxos.specs.Rules.{ballot_of, on_content, on_propose}

-- What each member keeps, and every message that was ever sent, by its number. A message that is delivered stays: it may come again.
pub record WorldParts : Type 0 where
  pub members : List (List (Place × Instance))
  pub sent : List Message

-- n members that heard of nothing
abbrev pub fresh : ℕ → WorldParts
fresh n = record { members = replicate n []; sent = [] }

-- what a member keeps
abbrev pub kept_by : WorldParts → ℕ → List (Place × Instance)
kept_by w member = get_or w.members member []

-- the instance of a place at a member
abbrev pub instance_of : WorldParts → ℕ → Place → Instance
instance_of w member place = instance_in (kept_by w member) place

-- the entry that a member holds
abbrev pub held_by : WorldParts → ℕ → ℕ → ℕ → Option (List ℕ)
held_by w member log position = (instance_of w member (record { log = log; position = position })).held

-- a change at a member: the instance is another, and the messages are sent
abbrev pub changed : WorldParts → ℕ → Place → Change → WorldParts
changed w member place change = record {
  members = set w.members member (with_instance (kept_by w member) place change.instance);
  sent = w.sent ++ change.sends;
}

-- the same, where there is one
abbrev pub changed_if : WorldParts → ℕ → Place → Option Change → WorldParts
changed_if w member place None = w
changed_if w member place (Some change) = changed w member place change

-- the greatest ballot
abbrev pub greatest_ballot : ℕ
greatest_ballot = 2 ^ 63 - 1

-- a member proposes
abbrev pub proposing : WorldParts → ℕ → Place → List ℕ → Result WorldParts StepRefused
proposing w member place entry =
    if nat_lt greatest_ballot (ballot_of (length w.members) member (instance_of w member place))
    then Err NoBallot
    else Ok (changed w member place (on_propose (length w.members) member place entry (instance_of w member place)))

-- a message comes to its member
abbrev pub delivering : WorldParts → Option Message → Result WorldParts StepRefused
delivering w None = Err (NoMessage (length w.sent))
delivering w (Some message) = Ok (changed_if w message.to message.place
    (on_content (length w.members) message.to message.place message.ballot message.content (instance_of w message.to message.place)))

-- a member restarts
abbrev pub restarting : WorldParts → ℕ → WorldParts
restarting w member = record w { members = set w.members member (restarted (kept_by w member)) }

-- each message is for one of the members
abbrev pub AreForMembers : WorldParts → Type 0
AreForMembers w = All (λ message. message.to < length w.members) w.sent

-- only a member proposes
abbrev pub proposing_at : WorldParts → ℕ → Place → List ℕ → Result WorldParts StepRefused
proposing_at w member place entry = if nat_lt member (length w.members) then proposing w member place entry else Err NoMember

-- only a member restarts
abbrev pub restarting_at : WorldParts → ℕ → Result WorldParts StepRefused
restarting_at w member = if nat_lt member (length w.members) then Ok (restarting w member) else Err NoMember

-- the world after an event, or why there is none
abbrev pub step_of : WorldParts → Event → Result WorldParts StepRefused
step_of w (Propose member log position entry) = proposing_at w member (record { log = log; position = position }) entry
step_of w (Deliver number) = delivering w (slice_get w.sent number)
step_of w (Restart member) = restarting_at w member
