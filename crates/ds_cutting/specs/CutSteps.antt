-- What each part of a run leaves whose index definitions change: the words of the proof of the clause `legal` of `serve_cut`, which itself
-- doesn't speak of them.
use Rattle.std.specs.Prelude.{◌≡◌, ◌⊎◌, ℕ, ◌+◌, ◌≤◌, List, [], ◌∷◌, ◌++◌, All, length, Option, Some, None, IfSome, IsSome, ⊤}
use mathlib.Core.List.{IsPrefix}
use Rattle.ds_base.specs.Limits.{first_drawn_id, most_input_bytes}
use Rattle.ds_feeding.specs.Feeding.{HasTooManyLeft, IsCutOver, WhereTooMany}
use Rattle.ds_row_limit.specs.ManyRows.{HaveFewRows}
use Rattle.ds_feeding.specs.declared.refused.ReindexRefused.{ReindexRefused}
use Rattle.ds_feeding.specs.declared.refused.ReindexRefused.TheVariants as refused
use Rattle.ds_indexdef.specs.declared.IndexDef.{IndexDef}
use Rattle.ds_log.specs.declared.Commit.{Commit}
use Rattle.ds_model.specs.Sessions.{Session, first_sessions}
use Rattle.ds_protocol.specs.Watermarks.{HaveCounts}
use Rattle.ds_rounds.specs.Reading.{ReaderParts}
use Rattle.ds_rounds.specs.Rounds.{NumberedLine}
use Rattle.ds_clients.specs.Runs.{AreWritten, IsIdle, passes_of, seen_of}
use Rattle.ds_clients.specs.Sessions.{SessionParts}
use Rattle.ds_serving.specs.Rounds.{HasServed, HasStopped}
use Rattle.ds_serving.specs.Runs.{HasBegun, read_faults, write_faults}
use Rattle.ds_serving.specs.declared.settings.Setting.{Setting}
use Rattle.ds_serve.specs.RunSteps.{Counted, Exactly, Leaves, RanBehind, StoppedPast, WhereStopped, round_read_faults, round_write_faults}
use Rattle.ds_serve.specs.declared.stopped.RoundOutcome.{RoundOutcome}
use Rattle.ds_serve.specs.declared.stopped.RoundOutcome.TheVariants as outcome
use Rattle.ds_store.specs.Ending.{HaveEnded}
use Rattle.ds_store.specs.Loads.{LoadingParts}
use Rattle.ds_store.specs.Passes.{PassParts, StoreParts}
use Rattle.ds_words.specs.declared.status.Status.{Status}
use Rattle.ds_words.specs.declared.status.Status.TheVariants as status
use Rattle.ds_cutting.specs.CutRuns.{AreSettings, IsLegalCutRun}
use Rattle.ds_cutting.specs.declared.outcome.CutRun.{CutRun}
use Rattle.ds_cutting.specs.declared.outcome.CutStatus.{CutStatus}
use Rattle.ds_cutting.specs.declared.outcome.CutStatus.TheVariants as cut

abbrev pub asked_of : ℕ → ℕ → List IndexDef → Setting
asked_of shards window definitions = record { shards = shards; window = window; defs = definitions }

-- so many rounds were run over a setting, from the first sessions on
abbrev pub RanFirst : Setting → List (List NumberedLine) → List SessionParts → List ℕ → Type 0
RanFirst setting = RanBehind setting (first_sessions setting.shards) [] []

-- what so many rounds leave, from the first one on, or fewer where the run stops at one of them
pub record HasServedSome (setting : Setting) (many : ℕ) (old new : ReaderParts) (left rest held held_after : Option (List ℕ))
    (read_old read_new write_old write_new : ℕ) (before after : List SessionParts) (o : RoundOutcome) : Type 0 where
  pub leaves : (left_first held_first : Option (List ℕ))
      → HasServed (Counted (Exactly 0) (RanFirst setting)) left_first left held_first held old before
      → Leaves setting (first_sessions setting.shards) [] [] many o left_first rest held_first held_after new after
  pub counts : HaveCounts setting.shards (seen_of after)
  pub written : AreWritten after
  pub within : o ≡ outcome.Served → new.number ≤ most_input_bytes + 1
  pub unsent : WhereStopped (λ s. (s.status ≡ status.WriteFault) ⊎ (s.unsent ≡ [])) o
  pub began : WhereStopped (λ s. HasBegun s.status) o
  pub read_fault : read_new ≡ round_read_faults o read_old
  pub write_fault : write_new ≡ round_write_faults o write_old

-- a status of a run that began to read
abbrev pub HasBegunCut : CutStatus → Type 0
HasBegunCut (cut.Served how) = HasBegun how
HasBegunCut (cut.NextFile line) = ⊥
HasBegunCut (cut.TooManyRows commit count) = ⊤

-- the counts of faults after a run
abbrev pub cut_read_faults : CutStatus → ℕ → ℕ
cut_read_faults (cut.Served how) faults = read_faults how faults
cut_read_faults _ faults = faults

abbrev pub cut_write_faults : CutStatus → ℕ → ℕ
cut_write_faults (cut.Served how) faults = write_faults how faults
cut_write_faults _ faults = faults

-- a run is a legal one of all words and files that set up the same
abbrev pub IsLegalOf : Setting → List IndexDef → ℕ → Option (List ℕ) → Option (List ℕ) → Option (List ℕ) → Option (List ℕ) → CutRun → Type 0
IsLegalOf setting second n left rest old new run =
    (words : List (List ℕ)) (file : List ℕ) (content : List ℕ → Option (List ℕ)) → AreSettings words file content setting second
    → IfSome run.journal (λ journal. IsLegalCutRun words file n content run.status run.cut left rest journal old new run.unsent)

-- how a run ends that began to read
pub record EndsBegun (read_old read_new write_old write_new : ℕ) (run : CutRun) : Type 0 where
  pub journal : IsSome run.journal
  pub unsent : (run.status ≡ cut.Served status.WriteFault) ⊎ (run.unsent ≡ [])
  pub began : HasBegunCut run.status
  pub read_fault : read_new ≡ cut_read_faults run.status read_old
  pub write_fault : write_new ≡ cut_write_faults run.status write_old

pub record IsCutRunOf (setting : Setting) (second : List IndexDef) (n : ℕ) (left rest old new : Option (List ℕ))
    (read_old read_new write_old write_new : ℕ) (run : CutRun) : Type 0 where
  pub legal : IsLegalOf setting second n left rest old new run
  pub ends : EndsBegun read_old read_new write_old write_new run

-- ---- ends of a store

-- a run that went no further than the first store, which has closed with these passes
pub record EndsUncut (shards : ℕ) (passes : List PassParts) (how : CutStatus) (unsent : List ℕ) (run : CutRun) : Type 0 where
  pub status_is : run.status ≡ how
  pub cut_is : run.cut ≡ None
  pub unsent_is : run.unsent ≡ unsent
  pub journal : List Commit
  pub journal_is : run.journal ≡ Some journal
  pub next : ℕ
  pub ended : HaveEnded shards passes journal next

-- The rounds behind the cut were served, until the run stopped, and the second store has closed: its passes are those of the sessions, the
-- one that fed it, and others that did nothing.
pub record EndsLater (setting : Setting) (place : ℕ) (loader : PassParts) (first : List Session) (earlier : List (List NumberedLine))
    (said : List ℕ) (left rest old new : Option (List ℕ)) (run : CutRun) : Type 0 where
  pub how : Status
  pub status_is : run.status ≡ cut.Served how
  pub cut_is : run.cut ≡ Some place
  pub now : List SessionParts
  pub stopped : HasStopped (Counted (StoppedPast how (length earlier)) (RanBehind setting first earlier said)) how left rest old new
      run.unsent now
  pub idle : List PassParts
  pub idle_all : All IsIdle idle
  pub journal : List Commit
  pub journal_is : run.journal ≡ Some journal
  pub next : ℕ
  pub ended : HaveEnded setting.shards ((idle ++ passes_of now) ++ loader ∷ []) journal next

-- ---- the cut

-- what the refusal of a last feeding is as a status
abbrev pub of_refused : ReindexRefused → CutStatus
of_refused (refused.TooManyRows commit count) = cut.TooManyRows commit count
of_refused refused.NoMemory = cut.Served status.NoMemory

-- The second store was fed by this pass with commits that it has seen, none of which has too many rows, and with ids that were shown to it.
pub record IsFeeding (definitions : List IndexDef) (shards passes : ℕ) (fed : LoadingParts) (feeder : PassParts) : Type 0 where
  pub shards_are : fed.shards ≡ shards
  pub passes_are : fed.passes ≡ passes
  pub begins : IsPrefix fed.journal feeder.journal
  pub place : length fed.journal ≤ feeder.place
  pub least : first_drawn_id ≤ fed.next
  pub next : fed.next ≤ feeder.next
  pub few : HaveFewRows definitions fed.journal

-- the last feeding was refused, of a second store that was fed so before
pub record IsRefused (definitions : List IndexDef) (feeder : PassParts) (r : ReindexRefused) : Type 0 where
  pub fed : List Commit
  pub few : HaveFewRows definitions fed
  pub many : WhereTooMany (HasTooManyLeft definitions feeder.journal fed) r

-- The second store has all that this pass of the first has seen, which is all commits, and none of them has too many rows.
pub record IsCutTo (definitions : List IndexDef) (shards passes : ℕ) (feeder : PassParts) (store : StoreParts) (later : List PassParts)
    (place : ℕ) : Type 0 where
  pub fed : LoadingParts
  pub feeding : (fed.shards ≡ shards) × (fed.passes ≡ passes) × (first_drawn_id ≤ fed.next) × (fed.next ≤ feeder.next)
  pub few : HaveFewRows definitions fed.journal
  pub over : IsCutOver definitions fed feeder store later place
