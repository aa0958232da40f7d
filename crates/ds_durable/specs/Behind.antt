-- What a run over a kept journal gives, whatever set it up: the words of the proof of what `serve_kept` promises.
use Rattle.std.specs.Prelude.{◌≡◌, ◌⊎◌, ℕ, ◌≤◌, List, [], Bool, IsTrue, Option, Some, None, IfSome, IsSome, length}
use Rattle.ds_io.specs.Faults.{Rose}
use Rattle.ds_kept_file.specs.Files.{Kept, IsDamaged}
use Rattle.ds_keep.specs.Keepers.{AllStandFor}
use Rattle.ds_serving.specs.declared.settings.Setting.{Setting}
use Rattle.ds_words.specs.declared.status.Status.TheVariants as status
use Rattle.ds_kept_rounds.specs.Ending.{HasBegunKept}
use Rattle.ds_restoring.specs.Fitting.{too_many_rows}
use Rattle.ds_durable.specs.KeptRuns.{HasTooManyRows, IsKeptRun, IsUnbegun, IsUnfit, IsUnopened, MayBeUnbegun, MayTell}
use Rattle.ds_kept_rounds.specs.KeptEnds.{MayLeaveReplies}
use Rattle.ds_durable.specs.KeptRuns.{RanBehind}
use Rattle.ds_kept_rounds.specs.KeptEnds.{kept_read_faults, kept_write_faults}
use Rattle.ds_durable.specs.KeptSettings.{IsKeptSetting}
use Rattle.ds_durable.specs.declared.outcome.KeptRun.{KeptRun}
use Rattle.ds_kept_rounds.specs.declared.status.KeptStatus.TheVariants as kept

-- The run was over this setting, behind what was kept; or what was kept has too many rows, or there was no memory to begin.
pub record IsRunBehind (setting : Setting) (before : Kept) (left rest old new : Option (List ℕ))
    (read_old read_new write_old write_new : ℕ) (honest : Bool) (images : List ℕ → Type 0) (disk_old disk_new : ℕ) (run : KeptRun)
    : Type 0 where
  pub ran : IfSome run.journal (λ journal. (too_many_rows setting.defs 1 before.journal ≡ None)
      × RanBehind setting before run.status left rest journal old new run.unsent honest images)
  pub unfit : (commit count : ℕ) → run.status ≡ kept.TooManyRows commit count
      → too_many_rows setting.defs 1 before.journal ≡ Some (commit, count)
  pub start : run.start ≡ length before.journal
  pub unbegun : IsSome run.journal ⊎ ((run.status ≡ kept.Served status.NoMemory) ⊎ IsUnfit run.status)
  pub none : IsUnfit run.status → run.journal ≡ None
  pub unsent : MayLeaveReplies run.status ⊎ (run.unsent ≡ [])
  pub began : HasBegunKept run.status ⊎ IsUnfit run.status
  pub read_fault : read_new ≡ kept_read_faults run.status read_old
  pub write_fault : write_new ≡ kept_write_faults run.status write_old
  pub disk_fault : run.status ≡ kept.DiskFault → Rose disk_old disk_new
  pub disk_faults : disk_old ≤ disk_new

-- The run was over this setting and a disk with these contents, of which a crash might have left these images before, and may leave those
-- after.
pub record IsRunOver (setting : Setting) (left rest old new : Option (List ℕ)) (read_old read_new write_old write_new : ℕ) (honest : Bool)
    (contents : List ℕ) (before after : List ℕ → Type 0) (disk_old disk_new : ℕ) (run : KeptRun) : Type 0 where
  pub legal : (words : List (List ℕ)) (content : List ℕ → Option (List ℕ)) → IsKeptSetting words content setting
      → IfSome run.journal (λ journal. IsKeptRun words content run.status run.start left rest journal old new run.unsent honest contents
      before after)
  pub unfit : (words : List (List ℕ)) (content : List ℕ → Option (List ℕ)) (commit count : ℕ) → IsKeptSetting words content setting
      → run.status ≡ kept.TooManyRows commit count → HasTooManyRows words content run.start commit count honest contents before
  pub undamaged : (stands : Kept) (place : ℕ) → IsTrue honest → AllStandFor stands before → run.status ≡ kept.Damaged place → ⊥
  pub tells_damage : (front : Kept) (place : ℕ) → IsTrue honest → IsDamaged contents place front → MayTell place run.status
  pub damaged : (place : ℕ) → run.status ≡ kept.Damaged place → IsTrue honest → (front : Kept) × IsDamaged contents place front
  pub opened : IsUnopened run.status → ⊥
  pub unbegun : IsUnbegun run.status → (run.journal ≡ None) × (run.start ≡ 0)
  pub unkept : run.status ≡ kept.DiskFault → run.journal ≡ None → run.start ≡ 0
  pub none : IsUnfit run.status → run.journal ≡ None
  pub journal : IsSome run.journal ⊎ MayBeUnbegun run.status
  pub unsent : MayLeaveReplies run.status ⊎ (run.unsent ≡ [])
  pub read_fault : read_new ≡ kept_read_faults run.status read_old
  pub write_fault : write_new ≡ kept_write_faults run.status write_old
  pub disk_fault : run.status ≡ kept.DiskFault → Rose disk_old disk_new
  pub disk_faults : disk_old ≤ disk_new
