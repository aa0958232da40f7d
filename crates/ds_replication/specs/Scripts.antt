-- How a script runs: event after event, until a line leaves the form or its event can't happen.
use Rattle.std.specs.Prelude.{◌≡◌, ⊤, ℕ, ◌+◌, List, [], ◌∷◌, Option, Some, None, Result, Ok, Err, option_and_then}
use Rattle.std.specs.Option.{ok_or}
use Rattle.std.specs.Result.{result_ok}
use Rattle.ds_paxos.specs.declared.event.Event.{Event}
use Rattle.ds_paxos.specs.Worlds.{WorldParts, fresh, step_of}
use Rattle.ds_replication.specs.declared.status.ReplicaStatus.{ReplicaStatus}
use Rattle.ds_replication.specs.declared.status.ReplicaStatus.TheVariants as status
use Rattle.ds_replication.specs.Lines.{event_of, lines_of}

-- the world after the event of a line; none where the line leaves the form, or where its event can't happen
abbrev pub next_world : WorldParts → List ℕ → Option WorldParts
next_world w line = option_and_then (λ event. result_ok (step_of w event)) (event_of line)

abbrev pub go_on : {A : Type 0} → (WorldParts → Result A ℕ) → Result WorldParts ℕ → Result A ℕ
go_on more (Ok w) = more w
go_on more (Err line) = Err line

-- The world after these lines, of which the first has this number; or the number of the first line that has no event that can happen.
abbrev pub run_lines : ℕ → List (List ℕ) → WorldParts → Result WorldParts ℕ
run_lines number [] w = Ok w
run_lines number (line ∷ lines) w = go_on (run_lines (number + 1) lines) (ok_or (next_world w line) number)

-- the world of n members after a script
abbrev pub run_script : ℕ → List ℕ → Result WorldParts ℕ
run_script n text = run_lines 1 (lines_of text) (fresh n)

-- why the event of the line with this number doesn't happen: it can't, or there is no memory
abbrev pub IsStopped : Option WorldParts → ℕ → ReplicaStatus → Type 0
IsStopped next number (status.Script line) = (next ≡ None) × (line ≡ number)
IsStopped next number status.NoMemory = ⊤
IsStopped next number _ = ⊥

-- why a script can't go on: that event can't happen, or there is no memory
abbrev pub IsRefused : Result WorldParts ℕ → ReplicaStatus → Type 0
IsRefused ran (status.Script line) = ran ≡ Err line
IsRefused ran status.NoMemory = ⊤
IsRefused ran _ = ⊥

abbrev pub event_in : Option Event → List Event → List Event
event_in None events = events
event_in (Some event) events = event ∷ events

-- the events of these lines
abbrev pub events_of : List (List ℕ) → List Event
events_of [] = []
events_of (line ∷ lines) = event_in (event_of line) (events_of lines)
