use Rattle.ds_machine.proofs.Words.{inr, refl, length, last_writer, transaction_of}
use Rattle.ds_machine.proofs.ToldPlans.{untouched-told}
use Rattle.ds_machine.proofs.TransactionPlans.{conflict-place, conflict_due}
use Rattle.ds_machine.proofs.state.State.plan_conflict.Goals as goal

pub returns-in-Ok-Some-clause-plan : goal.returns-in-Ok-Some-clause-plan
returns-in-Ok-Some-clause-plan c =
    conflict_due _ _ _ (transaction_of c.args.txn.now) c.args.conflict _ c.requires.commits.seen c.requires.commits.inside
    c.requires.conflict (cc (c.group.ensures, c.in-Ok-Some.ensures, c.in-Ok-Some.field-0-is))

pub returns-in-Ok-Some-clause-told : goal.returns-in-Ok-Some-clause-told
returns-in-Ok-Some-clause-told c = untouched-told _ _ _ _ _ _ (
  c.requires.commits.by_step,
  conflict-place (last_writer c.args.self.now.store.journal) (length c.args.self.now.store.journal) 0 c.args.txn.now.touched
      c.args.conflict c.requires.conflict,
) (λ group. refl) (inr refl)
