use Rattle.ds_machine.proofs.Words.{ap, arith, StateParts}
use Rattle.ds_machine.proofs.WriteAnswers.{commit_planned}
use Rattle.ds_machine.proofs.state.State.place_commit.Goals as goal

pub returns-clause-plan : goal.returns-clause-plan
returns-clause-plan c =
    commit_planned _ _ _ _ c.requires.due.writable c.requires.due.seen _
    (cc (c.next_above-next.ensures, c.as_slice.ensures, c.elems.ensures.value, c.key.ensures)) _ _ (grind (arith, c.requires.outside))
    (cc (c.journal.ensures.value, ap (λ (st : StateParts). st.store.journal) c.self.view_is)) c.in-Ok.ensures
