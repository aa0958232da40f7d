-- Lists of events: the worlds that they lead to, and what was proposed in them.
use Rattle.std.specs.Prelude.{ℕ, ◌≡◌, ◌≤◌, List, [], ◌∷◌, length, Some, Result, Ok, Err}
use Rattle.std.specs.List.{Contains}
use Rattle.ds_paxos.specs.declared.event.Event.{Event}
use Rattle.ds_paxos.specs.declared.event.Event.TheVariants.{Propose}
use Rattle.ds_paxos.specs.declared.event.StepRefused.{StepRefused}
use Rattle.ds_paxos.specs.Worlds.{WorldParts, fresh, held_by, step_of}

-- an event that is refused leaves the world as it was
abbrev pub after_step : WorldParts → Result WorldParts StepRefused → WorldParts
after_step w (Ok next) = next
after_step w (Err refused) = w

abbrev pub after_all : WorldParts → List Event → WorldParts
after_all w [] = w
after_all w (e ∷ es) = after_all (after_step w (step_of w e)) es

-- the world of n members after these events
abbrev pub run : ℕ → List Event → WorldParts
run n events = after_all (fresh n) events

-- some member was asked to propose the entry for this log and position
abbrev pub IsProposed : List Event → ℕ → ℕ → List ℕ → Type 0
IsProposed events log position entry = (member : ℕ) × Contains events (Propose member log position entry)

-- Any two members that hold entries of one log and position hold the same one.
abbrev pub Agree : WorldParts → Type 0
Agree w = (one other log position : ℕ) (entry second : List ℕ)
    → held_by w one log position ≡ Some entry → held_by w other log position ≡ Some second → entry ≡ second

-- Each entry that is held was proposed for its log and position.
abbrev pub HoldsProposed : List Event → WorldParts → Type 0
HoldsProposed events w = (member log position : ℕ) (entry : List ℕ)
    → held_by w member log position ≡ Some entry → IsProposed events log position entry

-- some events led to this world
abbrev pub IsReached : WorldParts → Type 0
IsReached w = (events : List Event) × (run (length w.members) events ≡ w)

-- 1 to 9 members, and some events led to this world
abbrev pub IsWorld : WorldParts → Type 0
IsWorld w = (length w.members ≤ 9) × IsReached w
