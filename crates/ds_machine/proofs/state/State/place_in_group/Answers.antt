use Rattle.ds_machine.proofs.Citing.{some-of}
use Rattle.ds_machine.proofs.ToldPlans.{group-told}
use Rattle.ds_machine.proofs.WriteAnswers.{group_planned}
use Rattle.ds_machine.proofs.state.State.place_in_group.Goals as goal

pub returns-clause-plan : goal.returns-clause-plan
returns-clause-plan c =
    let inside = some-of c.args.turn.now.session.now.transaction c.requires.inside in
    group_planned _ _ _ _ c.requires.due.writable c.requires.due.seen _
    (cc (c.next_above-next.ensures, c.as_slice.ensures, c.elems.ensures.value, c.key.ensures)) inside.0 _ _ inside.1
    (cc (c.in-Ok.ensures, c.key-2.ensures)) c.in-Some.ensures.stands

pub returns-clause-told : goal.returns-clause-told
returns-clause-told c = λ key. group-told _ _ _ _ key _ c.in-Some.ensures.told
