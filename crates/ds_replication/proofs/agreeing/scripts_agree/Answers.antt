use Rattle.std.proofs.Common.{subst}
use Rattle.ds_paxos.specs.Runs.{Agree, HoldsProposed}
use Rattle.ds_paxos.specs.Worlds.{fresh}
use Rattle.ds_replication.specs.Lines.{lines_of}
use Rattle.ds_replication.specs.Scripts.{events_of}
use Rattle.ds_replication.proofs.Scripted.{after_lines}
use Rattle.ds_replication.proofs.agreeing.scripts_agree.Goals as goal

pub returns-clause-events : goal.returns-clause-events
returns-clause-events c = λ n text w e. after_lines 1 (lines_of text) (fresh n) w e

pub returns-clause-agree : goal.returns-clause-agree
returns-clause-agree c = λ n text w e.
    subst Agree (after_lines 1 (lines_of text) (fresh n) w e) (c.agreement.ensures.same n (events_of (lines_of text)))

pub returns-clause-proposed : goal.returns-clause-proposed
returns-clause-proposed c = λ n text w e.
    subst (HoldsProposed (events_of (lines_of text))) (after_lines 1 (lines_of text) (fresh n) w e)
    (c.agreement.ensures.proposed n (events_of (lines_of text)))
