use Rattle.ds_machine.proofs.Words.{subst, IsState}
use Rattle.ds_machine.proofs.QueryPlans.{all_due}
use Rattle.ds_machine.proofs.state.State.find_in_all.Goals as goal

pub returns-in-Ok-find_at_counts-clause-plan : goal.returns-in-Ok-find_at_counts-clause-plan
returns-in-Ok-find_at_counts-clause-plan c = λ call of.
    all_due _ _ _ call c.args.search.now of c.args.ready.now c.requires.prepared (subst IsState c.self.view_is c.self.invariant)
    c.requires.turn.pulled c.requires.group c.in-Some.seen c.in-Some.ensures.risen c.in-Some.ensures.within c.in-Some.ensures.listed
    c.in-Some.ensures.commit _ (rw c.in-Ok.ensures.copied at c.in-Ok-find_at_counts.ensures.found)
