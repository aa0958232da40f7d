-- A script, line after line.
use Rattle.std.proofs.Common.{◌≡◌, ℕ, ◌+◌, ◌<◌, List, [], ◌∷◌, length, Option, Some, None, Result, Ok, Err, sym, ap, ◌∙◌, ok_or}
use Rattle.std.specs.List.{after_first, before_first}
use Rattle.std.specs.Option.{option_and_then}
use Rattle.std.specs.Result.{result_ok}
use Rattle.ds_paxos.specs.declared.event.Event.{Event}
use Rattle.ds_paxos.specs.declared.event.StepRefused.{StepRefused}
use Rattle.ds_paxos.specs.Runs.{after_all, after_step}
use Rattle.ds_paxos.specs.Worlds.{WorldParts, step_of}
use Rattle.ds_replication.specs.Lines.{event_of, is_newline, lines_of}
use Rattle.ds_replication.specs.Scripts.{IsRefused, IsStopped, event_in, events_of, go_on, next_world, run_lines}
use Rattle.ds_replication.specs.declared.status.ReplicaStatus.{ReplicaStatus}
use Rattle.ds_replication.specs.declared.status.ReplicaStatus.TheVariants as status
use Rattle.ds_replication.proofs.Cuts.{lines_cut}

-- the first line of what is left
run_cut : (number : ℕ) (rest : List ℕ) (w : WorldParts) → 0 < length rest
    → run_lines number (lines_of rest) w
    ≡ go_on (run_lines (number + 1) (lines_of (after_first is_newline rest))) (ok_or (next_world w (before_first is_newline rest)) number)
run_cut number rest w some = ap (λ (lines : List (List ℕ)). run_lines number lines w) (lines_cut rest some)

-- its event happens
pub run_more : (number : ℕ) (rest : List ℕ) (w next : WorldParts) → 0 < length rest → next_world w (before_first is_newline rest) ≡ Some next
    → run_lines number (lines_of rest) w ≡ run_lines (number + 1) (lines_of (after_first is_newline rest)) next
run_more number rest w next some taken = run_cut number rest w some
    ∙ ap (λ (o : Option WorldParts). go_on (run_lines (number + 1) (lines_of (after_first is_newline rest))) (ok_or o number)) taken

-- its event doesn't
pub run_stopped : (number : ℕ) (rest : List ℕ) (w : WorldParts) (whole : Result WorldParts ℕ) (how : ReplicaStatus) → 0 < length rest
    → IsStopped (next_world w (before_first is_newline rest)) number how → run_lines number (lines_of rest) w ≡ whole → IsRefused whole how
run_stopped number rest w whole (status.Script line) some stopped ran =
    sym ran ∙ run_cut number rest w some
    ∙ ap (λ (o : Option WorldParts). go_on (run_lines (number + 1) (lines_of (after_first is_newline rest))) (ok_or o number)) stopped.0
    ∙ ap (λ (k : ℕ). Err k) (sym stopped.1)
run_stopped number rest w whole status.NoMemory some stopped ran = tt
run_stopped number rest w whole status.Done some stopped ran = stopped
run_stopped number rest w whole status.Usage some stopped ran = stopped
run_stopped number rest w whole status.ReadFault some stopped ran = stopped
run_stopped number rest w whole status.WriteFault some stopped ran = stopped
run_stopped number rest w whole status.InputLimit some stopped ran = stopped

-- ---- the events of the lines

-- the world after lines is that after their events
pub after_lines : (number : ℕ) (lines : List (List ℕ)) (w last : WorldParts) → run_lines number lines w ≡ Ok last → after_all w (events_of lines) ≡ last
after_lines number [] w last e = cc
after_lines number (line ∷ lines) w last e = by (λ next. after_lines (number + 1) lines next last) (event_of line) e
  where
    steps : ((next : WorldParts) → run_lines (number + 1) lines next ≡ Ok last → after_all next (events_of lines) ≡ last)
        → (r : Result WorldParts StepRefused) → go_on (run_lines (number + 1) lines) (ok_or (result_ok r) number) ≡ Ok last
        → after_all (after_step w r) (events_of lines) ≡ last
    steps more (Ok next) e = more next e
    steps more (Err refused) e = absurd (cc e)

    by : ((next : WorldParts) → run_lines (number + 1) lines next ≡ Ok last → after_all next (events_of lines) ≡ last)
        → (o : Option Event) → go_on (run_lines (number + 1) lines) (ok_or (option_and_then (λ event. result_ok (step_of w event)) o) number) ≡ Ok last
        → after_all w (event_in o (events_of lines)) ≡ last
    by more None e = absurd (cc e)
    by more (Some event) e = steps more (step_of w event) e
