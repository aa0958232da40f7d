use Rattle.ds_machine.proofs.Words.{ap, transaction_of, StateParts}
use Rattle.ds_machine.proofs.TransactionPlans.{commit_due}
use Rattle.ds_machine.proofs.state.State.plan_serial.Goals as goal

pub returns-clause-plan : goal.returns-clause-plan
returns-clause-plan c =
    commit_due _ _ _ (transaction_of c.args.txn.now) _ _ c.requires.commits.seen c.requires.commits.inside c.in-Ok.ensures
    (cc (c.journal.ensures.value, ap (λ (st : StateParts). st.store.journal) c.self.view_is)) c.writes-commit.ensures.few
    (rw c.in-Ok.ensures c.requires.serial)
