use Rattle.ds_paxos.specs.Runs.{run}
use Rattle.ds_paxos.proofs.Safe.{agree, holds_proposed, of_events, safe_run}
use Rattle.ds_paxos.proofs.safety.agreement.Goals as goal

pub returns-clause-same : goal.returns-clause-same
returns-clause-same c = λ n events. agree n (of_events events) (run n events) (safe_run n events)

pub returns-clause-proposed : goal.returns-clause-proposed
returns-clause-proposed c = λ n events. holds_proposed events n (run n events) (safe_run n events)
