use Rattle.std.proofs.Common.{◌≡◌, take}
use Rattle.ds_log.specs.Logs.{group_writes}
use Rattle.ds_log.proofs.projection.group_writes.Given as goal

abbrev pub invariant-loop-write : goal.invariant-loop-write
invariant-loop-write l = l.own.items ≡ group_writes l.group (take l.write-index l.writes)
