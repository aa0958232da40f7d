use Rattle.ds_protocol.proofs.preparing.prepare.Goals as goal

pub returns-clause-places : goal.returns-clause-places
returns-clause-places c = rw (← c.as_slice.ensures) c.in_ok-window.ensures.places
