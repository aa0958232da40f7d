-- What each round of a run leaves, told of the sessions before and after it: the words of the proof of the main theorem, which itself
-- doesn't speak of them.
use Rattle.std.specs.Prelude.{◌≡◌, ◌⊎◌, ℕ, ◌+◌, ◌<◌, ◌≤◌, List, [], ◌++◌, Option, IfSome, IsSome, length, ⊤}
use Rattle.ds_rounds.specs.Rounds.{NumberedLine}
use Rattle.ds_rounds.specs.Reading.{ReaderParts}
use Rattle.ds_model.specs.Sessions.{Session, first_sessions}
use Rattle.ds_clients.specs.Sessions.{SessionParts}
use Rattle.ds_serving.specs.Rounds.{HasServed, HasStopped, RanFrom}
use Rattle.ds_serving.specs.Runs.{HasBegun, read_faults, write_faults}
use Rattle.ds_serving.specs.Settings.{IsSetting}
use Rattle.ds_serving.specs.declared.settings.Setting.{Setting}
use Rattle.ds_serve.specs.Runs.{IsLegalRun}
use Rattle.ds_words.specs.declared.status.Status.{Status}
use Rattle.ds_words.specs.declared.status.Status.TheVariants as status
use Rattle.ds_serve.specs.declared.outcome.Run.{Run}
use Rattle.ds_serve.specs.declared.stopped.RoundOutcome.{RoundOutcome}
use Rattle.ds_serve.specs.declared.stopped.Stopped.{Stopped}
use Rattle.ds_serve.specs.declared.stopped.RoundOutcome.TheVariants as outcome

-- what holds of how a run has stopped, where a round of it is the last one
abbrev pub WhereStopped : (Stopped → Type 0) → RoundOutcome → Type 0
WhereStopped P outcome.Served = ⊤
WhereStopped P (outcome.Stopped s) = P s

-- what is said of rounds that were run over a setting, from the first sessions on
abbrev pub Ran : Setting → List (List NumberedLine) → List SessionParts → List ℕ → Type 0
Ran setting = RanFrom setting (first_sessions setting.shards)

-- Behind these rounds, whose replies had this text, others were run over a setting, from what the clients had seen then on.
pub record RanBehind (setting : Setting) (first : List Session) (before : List (List NumberedLine)) (said : List ℕ)
    (rounds : List (List NumberedLine)) (now : List SessionParts) (text : List ℕ) : Type 0 where
  pub later : List (List NumberedLine)
  pub more : List ℕ
  pub rounds_are : rounds ≡ before ++ later
  pub text_is : text ≡ said ++ more
  pub run : RanFrom setting first later now more

-- what is said of rounds, whose number meets this
abbrev pub Counted : (ℕ → Type 0) → (List (List NumberedLine) → List SessionParts → List ℕ → Type 0) → List (List NumberedLine)
    → List SessionParts → List ℕ → Type 0
Counted Many Said rounds now text = Said rounds now text × Many (length rounds)

abbrev pub Exactly : ℕ → ℕ → Type 0
Exactly many n = n ≡ many

-- behind so many rounds a run stopped: with a round more, where the replies of the last one weren't all taken
abbrev pub StoppedBehind : Status → ℕ → ℕ → Type 0
StoppedBehind status.WriteFault many n = n ≡ many + 1
StoppedBehind _ many n = n ≡ many

-- fewer rounds than so many, where a run stopped before that; no more, where the replies of the last one weren't all taken
abbrev pub StoppedWithin : Status → ℕ → ℕ → Type 0
StoppedWithin status.WriteFault many n = n ≤ many
StoppedWithin _ many n = n < many

-- no fewer rounds than so many, where a run stopped behind that; more, where the replies of the last one weren't all taken
abbrev pub StoppedPast : Status → ℕ → ℕ → Type 0
StoppedPast status.WriteFault many n = many < n
StoppedPast _ many n = many ≤ n

-- what a round leaves that is read behind so many: the run goes on, or has stopped at it
abbrev pub LeavesOne : Setting → List Session → List (List NumberedLine) → List ℕ → ℕ → RoundOutcome → Option (List ℕ) → Option (List ℕ)
    → Option (List ℕ) → Option (List ℕ) → ReaderParts → List SessionParts → Type 0
LeavesOne setting first before said many outcome.Served left_first left held_first held reader now =
    HasServed (Counted (Exactly (many + 1)) (RanBehind setting first before said)) left_first left held_first held reader now
LeavesOne setting first before said many (outcome.Stopped s) left_first left held_first held reader now =
    HasStopped (Counted (StoppedBehind s.status many) (RanBehind setting first before said)) s.status left_first left held_first held
    s.unsent now

-- what so many rounds leave, all together: the run goes on, or has stopped at one of them
abbrev pub Leaves : Setting → List Session → List (List NumberedLine) → List ℕ → ℕ → RoundOutcome → Option (List ℕ) → Option (List ℕ)
    → Option (List ℕ) → Option (List ℕ) → ReaderParts → List SessionParts → Type 0
Leaves setting first before said many outcome.Served left_first left held_first held reader now =
    HasServed (Counted (Exactly many) (RanBehind setting first before said)) left_first left held_first held reader now
Leaves setting first before said many (outcome.Stopped s) left_first left held_first held reader now =
    HasStopped (Counted (StoppedWithin s.status many) (RanBehind setting first before said)) s.status left_first left held_first held
    s.unsent now

-- the counts of faults after a round
abbrev pub round_read_faults : RoundOutcome → ℕ → ℕ
round_read_faults outcome.Served faults = faults
round_read_faults (outcome.Stopped s) faults = read_faults s.status faults

abbrev pub round_write_faults : RoundOutcome → ℕ → ℕ
round_write_faults outcome.Served faults = faults
round_write_faults (outcome.Stopped s) faults = write_faults s.status faults

-- The rounds of an input were served, from where its reader stood, until the run stopped. The source had this left before and has that left
-- after, the sink held this before and holds that after; and so with their counts of faults.
pub record HasEnded (setting : Setting) (reader : ReaderParts) (left rest old new : Option (List ℕ))
    (read_old read_new write_old write_new : ℕ) (before after : List SessionParts) (s : Stopped) : Type 0 where
  pub stopped : (first : List Session) (earlier : List (List NumberedLine)) (said : List ℕ) (left_first held_first : Option (List ℕ))
      → HasServed (RanBehind setting first earlier said) left_first left held_first old reader before
      → HasStopped (Counted (StoppedPast s.status (length earlier)) (RanBehind setting first earlier said)) s.status left_first rest
      held_first new s.unsent after
  pub unsent : (s.status ≡ status.WriteFault) ⊎ (s.unsent ≡ [])
  pub began : HasBegun s.status
  pub read_fault : read_new ≡ read_faults s.status read_old
  pub write_fault : write_new ≡ write_faults s.status write_old

-- a run over what was set up: it is a legal one of all words and files that set up the same
pub record IsRunOf (setting : Setting) (left rest old new : Option (List ℕ)) (read_old read_new write_old write_new : ℕ) (run : Run)
    : Type 0 where
  pub legal : (words : List (List ℕ)) (content : List ℕ → Option (List ℕ)) → IsSetting words content setting
      → IfSome run.journal (λ journal. IsLegalRun words content run.status left rest journal old new run.unsent)
  pub journal : IsSome run.journal
  pub unsent : (run.status ≡ status.WriteFault) ⊎ (run.unsent ≡ [])
  pub began : HasBegun run.status
  pub read_fault : read_new ≡ read_faults run.status read_old
  pub write_fault : write_new ≡ write_faults run.status write_old
