use Rattle.ds_machine.proofs.Words.{◌∙◌, ap, Some, None, rules, StateParts}
use Rattle.ds_machine.proofs.OperationPlans.{id_refused, refused_for, refuses_here, unrefused_for}
use Rattle.ds_machine.proofs.ToldPlans.{silent-refused}
use Rattle.ds_machine.proofs.state.State.refusal.Goals as goal

pub returns-in-Some-clause-refused : goal.returns-in-Some-clause-refused
returns-in-Some-clause-refused c = record {
  plan = λ client. refused_for c.args.self.now c.args.session.now client c.args.operation.now c.refused.result.body c.in-Some.body
      c.refused.result.effect c.refused.ensures.body c.refused.ensures.effect c.in-Some.ensures.quiet
      (refuses_here c.args.self.now c.args.session.now client c.self.inside.defs c.open.result.now.transaction c.args.operation.now
      (Some c.in-Some.body) (ap (λ (st : StateParts). st.store.definitions) c.self.view_is) c.open.ensures (c.in-Some.ensures.told c.args.session.now));
  silent = silent-refused c.args.self.now _ _ _ c.refused.ensures.body c.refused.ensures.effect c.in-Some.ensures.numberless c.in-Some.ensures.quiet;
}

pub returns-in-Some-first_unissued-clause-refused : goal.returns-in-Some-first_unissued-clause-refused
returns-in-Some-first_unissued-clause-refused c = record {
  plan = λ client. id_refused c.args.self.now c.args.session.now client c.args.operation.now _ _ c.requires
      (unrefused_for c.args.self.now c.args.session.now client c.args.operation.now
      (refuses_here c.args.self.now c.args.session.now client c.self.inside.defs c.open.result.now.transaction c.args.operation.now None
      (ap (λ (st : StateParts). st.store.definitions) c.self.view_is) c.open.ensures (c.in_default.ensures.told c.args.session.now)))
      (c.next-next.ensures.value ∙ ap (λ (st : StateParts). st.store.next) c.self.view_is) c.in-Some-first_unissued.ensures;
  silent = search rules;
}

pub returns-in-None-clause-unrefused : goal.returns-in-None-clause-unrefused
returns-in-None-clause-unrefused c = λ none. unrefused_for c.args.self.now c.args.session.now 0 c.args.operation.now
    (refuses_here c.args.self.now c.args.session.now 0 c.self.inside.defs c.open.result.now.transaction c.args.operation.now None
    (ap (λ (st : StateParts). st.store.definitions) c.self.view_is) c.open.ensures (c.in_default.ensures.told c.args.session.now))
