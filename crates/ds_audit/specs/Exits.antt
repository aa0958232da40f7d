-- The number with which the auditor ends.
use Rattle.std.specs.Prelude.{ℕ}
use Rattle.ds_audit.specs.declared.status.AuditStatus.{AuditStatus}
use Rattle.ds_audit.specs.declared.status.AuditStatus.TheVariants as status

abbrev pub exit_of : AuditStatus → ℕ
exit_of status.Legal = 0
exit_of status.Usage = 1
exit_of (status.IndexFile line) = 2
exit_of (status.Journal line) = 3
exit_of status.WriteFault = 4
exit_of status.FileFault = 5
exit_of status.NoMemory = 6
exit_of status.NotLegal = 7
