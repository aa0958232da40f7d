use Rattle.ds_machine.proofs.Words.{◌∙◌, ap, arith, subst, first_uncovered, shown, IsState}
use Rattle.ds_machine.proofs.DuePlans.{settle_due}
use Rattle.ds_machine.proofs.state.State.tell_settled.Goals as goal

pub returns-clause-plan : goal.returns-clause-plan
returns-clause-plan c = rw c.in-Ok.ensures.copied
    (settle_due c.args.self.now c.args.turn.now.session.now c.args.turn.now.client (subst IsState c.self.view_is c.self.invariant)
    c.requires.turn.pulled (grind (arith, c.requires.turn.unrefused)) c.args.place c.in-Some.seen
    (rw c.requires.touched at c.requires.turn.gathered.place) c.in-Some.ensures.risen c.in-Some.ensures.within c.in-Some.ensures.listed
    (ap (first_uncovered (shown c.args.self.now) c.args.place 0) c.in-Some.ensures.viewed ∙ c.requires.covered) c.in-Some.ensures.commit)
