-- The number with which the program ends.
use Rattle.std.specs.Prelude.{ℕ}
use Rattle.ds_words.specs.declared.status.Status.{Status}
use Rattle.ds_words.specs.declared.status.Status.TheVariants as status

abbrev pub exit_of : Status → ℕ
exit_of status.Done = 0
exit_of status.Usage = 1
exit_of (status.IndexFile line) = 2
exit_of status.ReadFault = 3
exit_of status.WriteFault = 4
exit_of status.FileFault = 5
exit_of status.NoMemory = 6
exit_of status.InputLimit = 7
