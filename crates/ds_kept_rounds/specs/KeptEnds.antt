-- How a run over a kept journal ends, and what its end tells of its source, its sink and its replies.
use Rattle.std.specs.Prelude.{ℕ, ⊤}
use Rattle.ds_words.specs.Exits.{exit_of}
use Rattle.ds_words.specs.declared.status.Status.{Status}
use Rattle.ds_words.specs.declared.status.Status.TheVariants as status
use Rattle.ds_serving.specs.Runs.{read_faults, write_faults}
use Rattle.ds_kept_rounds.specs.declared.status.KeptStatus.{KeptStatus}
use Rattle.ds_kept_rounds.specs.declared.status.KeptStatus.TheVariants as kept

-- the number with which the program ends
abbrev pub kept_exit_of : KeptStatus → ℕ
kept_exit_of (kept.Served how) = exit_of how
kept_exit_of kept.DiskFault = 8
kept_exit_of (kept.Damaged place) = 9
kept_exit_of (kept.TooManyRows commit count) = 10

-- How a run would have ended that ran these rounds without a kept journal. Where the disk failed, or there was no memory, the rounds are
-- the first ones of the input, as where a write failed: all of it may have been run, if its last round could not be kept.
abbrev pub run_as : KeptStatus → Status
run_as (kept.Served status.NoMemory) = status.WriteFault
run_as (kept.Served how) = how
run_as _ = status.WriteFault

-- replies may be left that were not written
abbrev pub MayLeaveReplies : KeptStatus → Type 0
MayLeaveReplies (kept.Served status.WriteFault) = ⊤
MayLeaveReplies (kept.Served status.NoMemory) = ⊤
MayLeaveReplies kept.DiskFault = ⊤
MayLeaveReplies _ = ⊥

-- a source's and a sink's count of faults after a run
abbrev pub kept_read_faults : KeptStatus → ℕ → ℕ
kept_read_faults (kept.Served how) faults = read_faults how faults
kept_read_faults _ faults = faults

abbrev pub kept_write_faults : KeptStatus → ℕ → ℕ
kept_write_faults (kept.Served how) faults = write_faults how faults
kept_write_faults _ faults = faults
