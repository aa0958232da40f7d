-- The number with which a run ends.
use Rattle.std.specs.Prelude.{ℕ}
use Rattle.ds_replication.specs.declared.status.ReplicaStatus.{ReplicaStatus}
use Rattle.ds_replication.specs.declared.status.ReplicaStatus.TheVariants as status

abbrev pub exit_of : ReplicaStatus → ℕ
exit_of status.Done = 0
exit_of status.Usage = 1
exit_of (status.Script line) = 2
exit_of status.ReadFault = 3
exit_of status.WriteFault = 4
exit_of status.NoMemory = 6
exit_of status.InputLimit = 7
