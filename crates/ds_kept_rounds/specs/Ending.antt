-- What each round of a run leaves, told of the sessions before and after it, and how the rounds end.
use Rattle.std.specs.Prelude.{◌≡◌, ◌⊎◌, ℕ, ◌≤◌, List, [], Bool, IsTrue, Option, ⊤}
use Rattle.ds_model.specs.Sessions.{Session}
use Rattle.ds_io.specs.Faults.{Rose}
use Rattle.ds_rounds.specs.Reading.{ReaderParts, first_reader}
use Rattle.ds_clients.specs.Sessions.{SessionParts}
use Rattle.ds_keep.specs.Keepers.{KeeperParts}
use Rattle.ds_serving.specs.Rounds.{HasServed, HasStopped}
use Rattle.ds_serving.specs.declared.settings.Setting.{Setting}
use Rattle.ds_words.specs.declared.status.Status.TheVariants as status
use Rattle.ds_kept_rounds.specs.Going.{HasRunKept}
use Rattle.ds_keeping.specs.Holding.{HoldsUpTo}
use Rattle.ds_kept_rounds.specs.KeptEnds.{MayLeaveReplies, kept_read_faults, kept_write_faults, run_as}
use Rattle.ds_keeping.specs.declared.keeping.Unkept.{Unkept}
use Rattle.ds_keeping.specs.declared.keeping.Unkept.TheVariants as unkept
use Rattle.ds_kept_rounds.specs.declared.status.KeptStatus.{KeptStatus}
use Rattle.ds_kept_rounds.specs.declared.status.KeptStatus.TheVariants as kept
use Rattle.ds_kept_rounds.specs.declared.stopped.RoundOutcome.{RoundOutcome}
use Rattle.ds_kept_rounds.specs.declared.stopped.RoundOutcome.TheVariants as outcome
use Rattle.ds_kept_rounds.specs.declared.stopped.Stopped.{Stopped}

-- how a run ends whose round could not be kept
abbrev pub status_of : Unkept → KeptStatus
status_of unkept.DiskFault = kept.DiskFault
status_of unkept.NoMemory = kept.Served status.NoMemory

-- what holds of the keeper, where a run goes on behind a round
abbrev pub WhereServed : (KeeperParts → Type 0) → RoundOutcome → Type 0
WhereServed P (outcome.Served keeper) = P keeper
WhereServed P (outcome.Stopped s) = ⊤

-- what holds of how a run has stopped, where a round of it is the last one
abbrev pub WhereStopped : (Stopped → Type 0) → RoundOutcome → Type 0
WhereStopped P (outcome.Served keeper) = ⊤
WhereStopped P (outcome.Stopped s) = P s

-- A run has stopped: its rounds were run from these first sessions, and what the replies that were not held back tell is kept, whatever a
-- crash leaves now of an honest disk. Where replies were held back, they are the unsent ones.
pub record HasStoppedKept (setting : Setting) (first : List Session) (s : Stopped) (left rest old new : Option (List ℕ))
    (now : List SessionParts) (honest : Bool) (images : List ℕ → Type 0) : Type 0 where
  pub commits : ℕ
  pub next : ℕ
  pub held : List ℕ
  pub stopped : HasStopped (HasRunKept setting first commits next held) (run_as s.status) left rest old new s.unsent now
  pub held_is : (held ≡ []) ⊎ (held ≡ s.unsent)
  pub on_disk : IsTrue honest → (image : List ℕ) → images image → HoldsUpTo commits next image

-- what a round leaves: the run goes on, and all is kept that its replies tell, or it has stopped
abbrev pub LeavesKept : Setting → List Session → RoundOutcome → Option (List ℕ) → Option (List ℕ) → Option (List ℕ) → Option (List ℕ)
    → ReaderParts → List SessionParts → Bool → (List ℕ → Type 0) → Type 0
LeavesKept setting first (outcome.Served k) left_first left held_first held reader now honest images =
    HasServed (HasRunKept setting first k.commits k.next []) left_first left held_first held reader now
LeavesKept setting first (outcome.Stopped s) left_first left held_first held reader now honest images =
    HasStoppedKept setting first s left_first left held_first held now honest images

-- a status of a run that began to read
abbrev pub HasBegunKept : KeptStatus → Type 0
HasBegunKept kept.DiskFault = ⊤
HasBegunKept (kept.Served status.Usage) = ⊥
HasBegunKept (kept.Served (status.IndexFile line)) = ⊥
HasBegunKept (kept.Served status.FileFault) = ⊥
HasBegunKept (kept.Served how) = ⊤
HasBegunKept _ = ⊥

-- The rounds of an input were served, from the first one on, until the run stopped. The source had this left before and has that left
-- after, the sink held this before and holds that after, and so with the counts of faults.
pub record HasEndedKept (setting : Setting) (keeper : KeeperParts) (left rest old new : Option (List ℕ))
    (read_old read_new write_old write_new : ℕ) (before after : List SessionParts) (honest : Bool) (images : List ℕ → Type 0)
    (disk_old disk_new : ℕ) (s : Stopped) : Type 0 where
  pub stopped : (first : List Session)
      → HasServed (HasRunKept setting first keeper.commits keeper.next []) left left old old first_reader before
      → HasStoppedKept setting first s left rest old new after honest images
  pub unsent : MayLeaveReplies s.status ⊎ (s.unsent ≡ [])
  pub began : HasBegunKept s.status
  pub read_fault : read_new ≡ kept_read_faults s.status read_old
  pub write_fault : write_new ≡ kept_write_faults s.status write_old
  pub disk_fault : s.status ≡ kept.DiskFault → Rose disk_old disk_new
  pub disk_faults : disk_old ≤ disk_new

-- the counts of faults after a round
abbrev pub round_read_faults : RoundOutcome → ℕ → ℕ
round_read_faults (outcome.Served k) faults = faults
round_read_faults (outcome.Stopped s) faults = kept_read_faults s.status faults

abbrev pub round_write_faults : RoundOutcome → ℕ → ℕ
round_write_faults (outcome.Served k) faults = faults
round_write_faults (outcome.Stopped s) faults = kept_write_faults s.status faults
