use Rattle.std.proofs.Common.{sym, subst}
use Rattle.ds_session_writes.specs.Committing.{IsCommitOf}
use Rattle.ds_session_writes.proofs.transactions.prepared.Goals as goal

pub returns-in-Ok-clause-asked : goal.returns-in-Ok-clause-asked
returns-in-Ok-clause-asked c = subst (λ o. IsCommitOf c.args.client o c.in-Ok.draft) (sym c.in_ok-txn.ensures) c.in-Ok.ensures
