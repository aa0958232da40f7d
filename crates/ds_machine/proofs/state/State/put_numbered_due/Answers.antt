use Rattle.ds_machine.proofs.Words.{◌≤◌, ◌∙◌, true, ap, arith, refl, subst, sym, greatest_id, Put, StateParts, IsWritable}
use Rattle.ds_request.specs.declared.call.Call.TheVariants as call
use Rattle.ds_reply.specs.declared.reply.Body.TheVariants as body
use Rattle.ds_effects.specs.declared.effect.Effect.TheVariants as effect
use Rattle.ds_machine.proofs.Citing.{reply_map}
use Rattle.ds_machine.proofs.Plans.{due_unrefused, printed-one}
use Rattle.ds_machine.proofs.PutPlans.{numbered, numbered_due, numbered_writable}
use Rattle.ds_machine.proofs.ToldPlans.{silent-told}
use Rattle.ds_machine.proofs.state.State.put_numbered_due.Goals as goal

pub returns-in_default : goal.returns-in_default
returns-in_default c =
    let none = sym c.in_default.ensures in record {
      plan = reply_map _ _ c.ids_due.result (λ p is. rw (none, is.0, is.1) (due_unrefused c.args.self.now c.args.turn.now.session.now
          c.args.turn.now.client (call.Put c.args.entity.now.key true c.args.entity.now.properties)
          (body.IdsExhausted c.args.self.now.store.next) (effect.SeeNext c.args.self.now.store.next) refl
          (refl, refl, printed-one c.args.self.now.store.next, refl) (omega arith) c.requires.unrefused (λ w x. x)
          (λ window. (refl, c.requires.issued, record { shown = c.requires.seen.next_within; beyond = is.2; raised = refl }))))
          c.ids_due.ensures.plan;
      told = reply_map _ _ c.ids_due.result (λ p quiet. silent-told c.args.self.now c.args.turn.now.session.now p.body p.effect quiet
          c.args.turn.now.gathered.now c.args.turn.now.taken) c.ids_due.ensures.silent;
      next = rw none c.ids_due.ensures.next;
    }

pub say_put_due-requires-clause-writable : goal.say_put_due-requires-clause-writable
say_put_due-requires-clause-writable c =
    subst (λ e. IsWritable c.args.self.now c.args.turn.now.session.now (Put e))
    (sym (c.renumber.ensures ∙ ap (λ e. numbered e c.in-Some.id) c.in-Ok.ensures.copied))
    (numbered_writable _ _ c.args.turn.now.client c.args.entity.now c.in-Some.id c.requires.unrefused c.requires.issued
    (rw (sym c.in-Some.ensures) at c.requires.gathered.first).2)

pub returns : goal.returns
returns c =
    let copy = c.renumber.ensures ∙ ap (λ e. numbered e c.in-Some.id) c.in-Ok.ensures.copied in
    let drawn = sym c.in-Some.ensures in
    let own = rw drawn at c.requires.gathered.first in record {
      plan = reply_map _ _ c.say_put_due.result (λ p said. rw drawn (numbered_due c.args.self.now c.args.turn.now.session.now
          c.args.turn.now.client c.args.entity.now c.in-Some.id c.requires.unrefused c.requires.issued own.2 p.body p.effect
          (c.requires.lawful refl) own.1 (subst (λ (st : StateParts). st.store.next ≤ greatest_id) c.self.view_is c.self.invariant.left)
          said)) (rw copy at c.say_put_due.ensures.says);
      told = c.say_put_due.ensures.told;
      next = rw drawn (rw copy at c.say_put_due.ensures.next);
    }
