-- What is said of the rounds of an input so far, of the next one and of the last, whatever is said of rounds that were run: `Ran` says it
-- of these rounds, of the sessions that they left, and of the text of their replies.
use Rattle.std.specs.Prelude.{◌≡◌, ◌⊎◌, ℕ, List, Bool, true, Option, Some, None, Ok, Err, IfSome, length, ⊤}
use Rattle.std.specs.Io.KnownBytes.{Appends, Consumes}
use Rattle.ds_rounds.specs.Rounds.{NumberedLine, lines_of_round}
use Rattle.ds_rounds.specs.Reading.{HasRead, ReaderParts, ReadsRound}
use Rattle.ds_rounds.specs.declared.round.Round.{Round}
use Rattle.ds_rounds.specs.declared.stage.RoundRefused.{RoundRefused}
use Rattle.ds_rounds.specs.declared.stage.RoundRefused.TheVariants as refused
use Rattle.ds_clients.specs.Clients.{AreAlike}
use Rattle.ds_model.specs.Sessions.{Session}
use Rattle.ds_clients.specs.Runs.{HasRun, HaveRun}
use Rattle.ds_clients.specs.Sessions.{SessionParts}
use Rattle.ds_words.specs.declared.status.Status.{Status}
use Rattle.ds_words.specs.declared.status.Status.TheVariants as status
use Rattle.ds_serving.specs.Runs.{WereRun, Wrote, read_faults}
use Rattle.ds_serving.specs.declared.serving.NextRound.{NextRound}
use Rattle.ds_serving.specs.declared.serving.NextRound.TheVariants as next
use Rattle.ds_serving.specs.declared.settings.Setting.{Setting}

-- ---- the next round

-- how a run ends for which no further round was read
abbrev pub status_of : RoundRefused → Status
status_of refused.ReadFault = status.ReadFault
status_of refused.InputLimit = status.InputLimit
status_of refused.NoMemory = status.NoMemory

-- No round was run, as the input has ended, or no further round was read, or there was no memory to run it. The sessions have seen and done
-- nothing more.
abbrev pub HasNone : Status → ReaderParts → ReaderParts → Option (List ℕ) → Option (List ℕ) → List SessionParts → List SessionParts → Type 0
HasNone how old new left rest before after =
    AreAlike before after
    × (((how ≡ status.Done) × ReadsRound old new left rest (Ok None))
    ⊎ (((why : RoundRefused) × (how ≡ status_of why) × ReadsRound old new left rest (Err why))
    ⊎ ((round : Round) × (how ≡ status.NoMemory) × ReadsRound old new left rest (Ok (Some round)))))

-- The reader gave the next round and it was run, or no further round is. The source had this left before and has that left after.
abbrev pub HasNext : Setting → NextRound → ReaderParts → ReaderParts → Option (List ℕ) → Option (List ℕ) → List SessionParts
    → List SessionParts → Type 0
HasNext setting next.Ran old new left rest before after =
    (round : Round) × ReadsRound old new left rest (Ok (Some round))
    × HaveRun setting.defs setting.shards (Some setting.window) (lines_of_round round) before after
HasNext setting (next.Ended how) old new left rest before after = HasNone how old new left rest before after

-- what holds of how a run ends, where no further round is run
abbrev pub WhereEnded : (Status → Type 0) → NextRound → Type 0
WhereEnded P next.Ran = ⊤
WhereEnded P (next.Ended how) = P how

-- a status of a run that ends where no further round is run
abbrev pub IsEnd : Status → Type 0
IsEnd status.Done = ⊤
IsEnd status.ReadFault = ⊤
IsEnd status.InputLimit = ⊤
IsEnd status.NoMemory = ⊤
IsEnd _ = ⊥

-- the source's count of faults after a round
abbrev pub next_read_faults : NextRound → ℕ → ℕ
next_read_faults next.Ran faults = faults
next_read_faults (next.Ended how) faults = read_faults how faults

-- ---- rounds so far

-- what is said of rounds that were run over a setting, from what the clients had seen first on
abbrev pub RanFrom : Setting → List Session → List (List NumberedLine) → List SessionParts → List ℕ → Type 0
RanFrom setting first rounds now text = HasRun setting.defs setting.shards (Some setting.window) first rounds now text

-- so far the reader's rounds were read and run, and their replies written
pub record HasServed (Ran : List (List NumberedLine) → List SessionParts → List ℕ → Type 0)
    (left_first left held_first held : Option (List ℕ)) (reader : ReaderParts) (now : List SessionParts) : Type 0 where
  pub bytes : List ℕ
  pub rounds : List (List NumberedLine)
  pub text : List ℕ
  pub has_read : HasRead left_first left bytes rounds reader
  pub counted : reader.taken ≡ length bytes
  pub has_run : Ran rounds now text
  pub wrote : Appends held_first held text

-- A run has stopped: the rounds that were run, by how it ended, of the bytes that were read; what these left of the sessions; and what
-- was written of their replies.
pub record HasStopped (Ran : List (List NumberedLine) → List SessionParts → List ℕ → Type 0) (how : Status)
    (left rest old new : Option (List ℕ)) (unsent : List ℕ) (now : List SessionParts) : Type 0 where
  pub read : List ℕ
  pub told : Consumes left rest read
  pub ended : Bool
  pub at_the_end : ended ≡ true → IfSome left (λ bytes. bytes ≡ read)
  pub rounds : List (List NumberedLine)
  pub text : List ℕ
  pub run : WereRun how ended read rounds
  pub has_run : Ran rounds now text
  pub written : Wrote old new unsent text
