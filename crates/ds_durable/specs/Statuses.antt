-- How a run ends that doesn't go on, by why it doesn't.
use Rattle.ds_keep.specs.declared.refusals.KeepRefused.{KeepRefused}
use Rattle.ds_keep.specs.declared.refusals.KeepRefused.TheVariants as refused
use Rattle.ds_words.specs.declared.status.Status.TheVariants as status
use Rattle.ds_restoring.specs.declared.fitting.Unfit.{Unfit}
use Rattle.ds_restoring.specs.declared.fitting.Unfit.TheVariants as unfit
use Rattle.ds_kept_rounds.specs.declared.status.KeptStatus.{KeptStatus}
use Rattle.ds_kept_rounds.specs.declared.status.KeptStatus.TheVariants as kept

-- where the disk isn't opened
abbrev pub status_of : KeepRefused → KeptStatus
status_of (refused.Damaged place) = kept.Damaged place
status_of refused.DiskFault = kept.DiskFault
status_of refused.NoMemory = kept.Served status.NoMemory

-- where what is kept doesn't fit the index file
abbrev pub status_unfit : Unfit → KeptStatus
status_unfit (unfit.TooManyRows commit count) = kept.TooManyRows commit count
status_unfit unfit.NoMemory = kept.Served status.NoMemory
