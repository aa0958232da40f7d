-- The rules of Paxos (Lamport, "Paxos Made Simple"): what an event does to an instance at its member, and what the member sends then.
-- `n` is the number of members. Where there is no change, the event has no effect.
use Rattle.std.specs.Prelude.{ℕ, Bool, ◌&&◌, not, ◌==◌, nat_le, List, [], ◌∷◌, ◌++◌, length, map, Option, Some, None}
use Rattle.std.specs.Prelude.{unwrap_or, option_map, if◌then◌else◌}
use Rattle.std.specs.List.{list_any, range_with_len}
use Rattle.ds_paxos.specs.declared.change.Change.{Change}
use Rattle.ds_paxos.specs.declared.instance.Attempt.{Attempt}
use Rattle.ds_paxos.specs.declared.instance.Instance.{Instance}
use Rattle.ds_paxos.specs.declared.message.Content.{Content}
use Rattle.ds_paxos.specs.declared.message.Content.TheVariants.{Prepare, Promise, Accept, Accepted, Chosen}
use Rattle.ds_paxos.specs.declared.message.Message.{Message}
use Rattle.ds_paxos.specs.declared.message.Place.{Place}
use Rattle.ds_paxos.specs.declared.message.Promised.{Promised}
use Rattle.ds_paxos.specs.declared.message.Proposal.{Proposal}
use Rattle.ds_paxos.specs.Ballots.{is_majority, next_ballot, proposer_of}
use Rattle.ds_paxos.specs.Members.{highest}

-- one message, to the ballot's proposer
abbrev pub answer : ℕ → Place → ℕ → Content → List Message
answer n place ballot content = record { to = proposer_of n ballot; place = place; ballot = ballot; content = content } ∷ []

-- the same message to members 0 to n - 1
abbrev pub to_all : ℕ → Place → ℕ → Content → List Message
to_all n place ballot content =
    map (λ member. record { to = member; place = place; ballot = ballot; content = content }) (range_with_len 0 n)

-- the one with the greater ballot
abbrev pub later : Option Proposal → Option Proposal → Option Proposal
later None q = q
later (Some p) None = Some p
later (Some p) (Some q) = if nat_le q.ballot p.ballot then Some p else Some q

-- the accepted proposal with the greatest ballot that the promises tell of
abbrev pub greatest : List Promised → Option Proposal
greatest [] = None
greatest (p ∷ ps) = later p.accepted (greatest ps)

-- what a proposer asks to accept: the entry of that proposal, and where there is none its own
abbrev pub entry_of : Attempt → List ℕ
entry_of attempt = unwrap_or (option_map (λ proposal. proposal.entry) (greatest attempt.promises)) attempt.entry

-- A member proposes: it begins an attempt with its next ballot above all that it used or promised, and asks all for their promises.
-- Its former attempt is dropped.
abbrev pub ballot_of : ℕ → ℕ → Instance → ℕ
ballot_of n member instance = next_ballot n member (highest instance)

abbrev pub begun : ℕ → List ℕ → Instance → Instance
begun ballot entry instance =
    record instance { used = ballot; attempt = Some (record { ballot = ballot; entry = entry; promises = []; accepters = [] }) }

abbrev pub on_propose : ℕ → ℕ → Place → List ℕ → Instance → Change
on_propose n member place entry instance = let ballot = ballot_of n member instance in
    record { instance = begun ballot entry instance; sends = to_all n place ballot Prepare }

-- Prepare: a member whose promise isn't above the ballot promises it, and tells the proposal that it accepted last.
abbrev pub on_prepare : ℕ → ℕ → Place → ℕ → Instance → Option Change
on_prepare n member place ballot instance =
    if nat_le instance.promised ballot
    then Some (record {
      instance = record instance { promised = ballot };
      sends = answer n place ballot (Promise (record { member = member; accepted = instance.accepted }));
    })
    else None

-- Promise: it counts for the running ballot, once a member, until promises have come from a majority.
abbrev pub counts_promise : ℕ → ℕ → Promised → Attempt → Bool
counts_promise n ballot promised attempt = attempt.ballot == ballot
    && (not (is_majority n (length attempt.promises)) && not (list_any (λ other. other.member == promised.member) attempt.promises))

abbrev pub with_promise : Promised → Attempt → Attempt
with_promise promised attempt = record attempt { promises = attempt.promises ++ promised ∷ [] }

-- When a majority has promised for the first time, all are asked to accept.
abbrev pub asked : ℕ → Place → Instance → Attempt → Change
asked n place instance attempt = record {
  instance = record instance { attempt = Some attempt };
  sends = if is_majority n (length attempt.promises) then to_all n place attempt.ballot (Accept (entry_of attempt)) else [];
}

abbrev pub on_promise : ℕ → Place → ℕ → Promised → Instance → Option Attempt → Option Change
on_promise n place ballot promised instance None = None
on_promise n place ballot promised instance (Some attempt) =
    if counts_promise n ballot promised attempt then Some (asked n place instance (with_promise promised attempt)) else None

-- Accept: a member whose promise isn't above the ballot promises and accepts it, and tells so.
abbrev pub on_accept : ℕ → ℕ → Place → ℕ → List ℕ → Instance → Option Change
on_accept n member place ballot entry instance =
    if nat_le instance.promised ballot
    then Some (record {
      instance = record instance { promised = ballot; accepted = Some (record { ballot = ballot; entry = entry }) };
      sends = answer n place ballot (Accepted member);
    })
    else None

-- Accepted: it counts for the running ballot, once a member, until a majority has accepted.
abbrev pub counts_accepted : ℕ → ℕ → ℕ → Attempt → Bool
counts_accepted n ballot member attempt = attempt.ballot == ballot
    && (not (is_majority n (length attempt.accepters)) && not (list_any (λ other. other == member) attempt.accepters))

abbrev pub with_accepter : ℕ → Attempt → Attempt
with_accepter member attempt = record attempt { accepters = attempt.accepters ++ member ∷ [] }

-- When a majority has accepted for the first time, the entry is chosen: the proposer holds it, and tells all.
abbrev pub chosen : ℕ → Place → Instance → Attempt → Change
chosen n place instance attempt =
    if is_majority n (length attempt.accepters)
    then record {
      instance = record instance { held = Some (entry_of attempt); attempt = Some attempt };
      sends = to_all n place attempt.ballot (Chosen (entry_of attempt));
    }
    else record { instance = record instance { attempt = Some attempt }; sends = [] }

abbrev pub on_accepted : ℕ → Place → ℕ → ℕ → Instance → Option Attempt → Option Change
on_accepted n place ballot member instance None = None
on_accepted n place ballot member instance (Some attempt) =
    if counts_accepted n ballot member attempt then Some (chosen n place instance (with_accepter member attempt)) else None

-- Chosen: the member holds the entry.
abbrev pub on_chosen : List ℕ → Instance → Change
on_chosen entry instance = record { instance = record instance { held = Some entry }; sends = [] }

-- a message comes to its member
abbrev pub on_content : ℕ → ℕ → Place → ℕ → Content → Instance → Option Change
on_content n member place ballot Prepare instance = on_prepare n member place ballot instance
on_content n member place ballot (Promise promised) instance = on_promise n place ballot promised instance instance.attempt
on_content n member place ballot (Accept entry) instance = on_accept n member place ballot entry instance
on_content n member place ballot (Accepted other) instance = on_accepted n place ballot other instance instance.attempt
on_content n member place ballot (Chosen entry) instance = Some (on_chosen entry instance)
