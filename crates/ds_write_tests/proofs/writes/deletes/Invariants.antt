use Rattle.std.proofs.Common.{◌≡◌, length}
use Rattle.ds_log.specs.Ids.{AreIssued}
use Rattle.ds_write_tests.proofs.writes.deletes.Given as goal

abbrev pub invariant-loop-name : goal.invariant-loop-name
invariant-loop-name l = AreIssued 0 l.writes.items × (length l.writes.items ≡ l.name-index)
