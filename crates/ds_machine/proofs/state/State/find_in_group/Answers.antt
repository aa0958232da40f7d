use Rattle.ds_machine.proofs.Words.{ap, map, subst, IsState, StateParts}
use Rattle.ds_entity.specs.declared.results.Seen.TheVariants as seen
use Rattle.ds_machine.proofs.QueryPlans.{group_due}
use Rattle.ds_machine.proofs.ToldPlans.{read-told, search-numbers}
use Rattle.ds_machine.proofs.state.State.find_in_group.Goals as goal

pub returns-in-Ok-find-clause-plan : goal.returns-in-Ok-find-clause-plan
returns-in-Ok-find-clause-plan c = λ call of.
    group_due _ _ _ call c.args.search.now of c.args.ready.now c.requires.prepared (subst IsState c.self.view_is c.self.invariant)
    c.args.read c.requires.reached _
    (cc (
      c.in-Ok-find.ensures.found,
      c.as_slice.ensures.value,
      c.in-Ok-entities.ensures,
      c.in-Ok.ensures,
      ap (λ (st : StateParts). st.applied.lists) c.self.view_is,
    ))

pub returns-in-Ok-find-clause-told : goal.returns-in-Ok-find-clause-told
returns-in-Ok-find-clause-told c = read-told _ _ _ _ _ c.args.read
    (search-numbers c.args.self.now c.args.turn.now.session.now c.args.turn.now.gathered.now c.args.turn.now.taken c.args.search.now c.args.ready.now.normal c.args.ready.now.window (map (λ e. e.now) c.as_slice.result.now)
    (seen.Place c.args.read.place) c.in-Ok-find.body c.in-Ok-find.ensures.found c.requires.place) c.requires.place
