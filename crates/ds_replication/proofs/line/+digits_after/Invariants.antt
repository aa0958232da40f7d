use Rattle.std.proofs.Common.{length}
use Rattle.ds_replication.proofs.line.+digits_after.Given as goal

abbrev pub decreases-digits_after : goal.decreases-digits_after
decreases-digits_after l = length l.bytes.now
