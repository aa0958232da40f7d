use Rattle.std.proofs.Common.{length}
use Rattle.ds_paxos.proofs.rules.+greatest.Given as goal

abbrev pub decreases-greatest : goal.decreases-greatest
decreases-greatest l = length l.promises.now
