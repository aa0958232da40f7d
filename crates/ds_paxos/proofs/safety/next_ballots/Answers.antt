use Rattle.ds_paxos.proofs.Ballots.{next_least}
use Rattle.ds_paxos.proofs.safety.next_ballots.Goals as goal

pub returns : goal.returns
returns c = next_least
