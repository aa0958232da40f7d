-- How a run over a kept journal ends, and what it ran.
use Rattle.std.specs.Prelude.{◌≡◌, ◌⊎◌, ℕ, List, Bool, true, Option, Some, None, IfSome, IsTrue, length, ⊤}
use Rattle.std.specs.Io.KnownBytes.{Consumes}
use Rattle.ds_log.specs.declared.Commit.{Commit}
use Rattle.ds_reply.specs.declared.reply.Reply.{Reply}
use Rattle.ds_reply.specs.Replies.{replies_text}
use Rattle.ds_rounds.specs.Rounds.{NumberedLine}
use Rattle.ds_words.specs.declared.status.Status.TheVariants as status
use Rattle.ds_model.specs.Asked.{asked}
use Rattle.ds_kept_file.specs.Files.{Kept, StandsFor}
use Rattle.ds_keep.specs.Keepers.{AllStandFor}
use Rattle.ds_serving.specs.Runs.{WereRun, Wrote}
use Rattle.ds_serving.specs.Settings.{file_faults}
use Rattle.ds_serving.specs.declared.settings.Setting.{Setting}
use Rattle.ds_kept_rounds.specs.KeptEnds.{run_as}
use Rattle.ds_restoring.specs.Fitting.{too_many_rows}
use Rattle.ds_durable.specs.KeptSettings.{IsKeptSetting}
use Rattle.ds_restoring.specs.LegalFrom.{LegalFrom}
use Rattle.ds_durable.specs.KeptReplies.{AllAreKept}
use Rattle.ds_kept_rounds.specs.declared.status.KeptStatus.{KeptStatus}
use Rattle.ds_kept_rounds.specs.declared.status.KeptStatus.TheVariants as kept

-- ---- what was run

-- The rounds that a run behind a kept journal has run, with their replies: they are one legal run behind it; the bytes written, with the
-- unsent rest, are these replies; and each reply whose bytes were written is on the disk, whatever a crash leaves of it now.
pub record RanBehind (setting : Setting) (kept : Kept) (how : KeptStatus) (left rest : Option (List ℕ)) (journal : List Commit)
    (old new : Option (List ℕ)) (unsent : List ℕ) (honest : Bool) (images : List ℕ → Type 0) : Type 0 where
  pub read : List ℕ
  pub told : Consumes left rest read
  pub ended : Bool
  pub at_the_end : ended ≡ true → IfSome left (λ bytes. bytes ≡ read)
  pub rounds : List (List NumberedLine)
  pub replies : List Reply
  pub run : WereRun (run_as how) ended read rounds
  pub legal : LegalFrom setting.defs setting.shards (Some setting.window) kept rounds journal replies
  pub written : Wrote old new unsent (replies_text replies)
  pub on_disk : IsTrue honest → AllAreKept (asked setting.shards) rounds replies written.0 images

-- A run over a kept journal that began to read. The words and their index file set it up; the disk kept this journal and this counter, of
-- which it tells the number of commits; none of its puts has too many rows; and the rounds were run behind it. What an honest disk kept is
-- what its contents stand for, and where all that a crash might have left stood for one journal and counter, it is that.
pub record IsKeptRun (words : List (List ℕ)) (content : List ℕ → Option (List ℕ)) (how : KeptStatus) (start : ℕ)
    (left rest : Option (List ℕ)) (journal : List Commit) (old new : Option (List ℕ)) (unsent : List ℕ) (honest : Bool)
    (contents : List ℕ) (before after : List ℕ → Type 0) : Type 0 where
  pub setting : Setting
  pub set_up : IsKeptSetting words content setting
  pub kept : Kept
  pub started : start ≡ length kept.journal
  pub found : IsTrue honest → StandsFor kept contents
  pub alone : (other : Kept) → IsTrue honest → AllStandFor other before → kept ≡ other
  pub fits : too_many_rows setting.defs 1 kept.journal ≡ None
  pub ran : RanBehind setting kept how left rest journal old new unsent honest after

-- What an honest disk kept has too many rows under the index file, first in the put of this commit.
pub record HasTooManyRows (words : List (List ℕ)) (content : List ℕ → Option (List ℕ)) (start commit count : ℕ) (honest : Bool)
    (contents : List ℕ) (before : List ℕ → Type 0) : Type 0 where
  pub setting : Setting
  pub set_up : IsKeptSetting words content setting
  pub kept : Kept
  pub started : start ≡ length kept.journal
  pub found : IsTrue honest → StandsFor kept contents
  pub alone : (other : Kept) → IsTrue honest → AllStandFor other before → kept ≡ other
  pub first : too_many_rows setting.defs 1 kept.journal ≡ Some (commit, count)

-- ---- how a run ends

-- the disk wasn't touched
abbrev pub IsUnopened : KeptStatus → Type 0
IsUnopened (kept.Served status.Usage) = ⊤
IsUnopened (kept.Served (status.IndexFile line)) = ⊤
IsUnopened (kept.Served status.FileFault) = ⊤
IsUnopened _ = ⊥

-- nothing was read or written, and no commit is told as kept
abbrev pub IsUnbegun : KeptStatus → Type 0
IsUnbegun (kept.Damaged place) = ⊤
IsUnbegun how = IsUnopened how

-- nothing was read or written, though commits were kept
abbrev pub IsUnfit : KeptStatus → Type 0
IsUnfit (kept.TooManyRows commit count) = ⊤
IsUnfit _ = ⊥

-- a run may end so before it reads
abbrev pub MayBeUnbegun : KeptStatus → Type 0
MayBeUnbegun (kept.Served status.NoMemory) = ⊤
MayBeUnbegun kept.DiskFault = ⊤
MayBeUnbegun how = IsUnbegun how ⊎ IsUnfit how

-- how a run may end whose disk is damaged at this place
abbrev pub MayTell : ℕ → KeptStatus → Type 0
MayTell place (kept.Damaged here) = here ≡ place
MayTell place kept.DiskFault = ⊤
MayTell place (kept.Served status.NoMemory) = ⊤
MayTell place how = IsUnopened how

-- the run ends for what the disk keeps
abbrev pub IsKeptWrong : KeptStatus → Type 0
IsKeptWrong (kept.Damaged place) = ⊤
IsKeptWrong how = IsUnfit how

-- a file's count of faults after a run
abbrev pub kept_file_faults : KeptStatus → ℕ → ℕ
kept_file_faults (kept.Served how) faults = file_faults how faults
kept_file_faults _ faults = faults
