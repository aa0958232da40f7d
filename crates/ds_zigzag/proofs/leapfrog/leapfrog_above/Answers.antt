use Rattle.ds_zigzag.proofs.leapfrog.leapfrog_above.Goals as goal

pub returns-clause-steps_when_refused : goal.returns-clause-steps_when_refused
returns-clause-steps_when_refused g c = rw c.in_ok-start_above.ensures.below at c.leapfrog.ensures.steps_when_refused
