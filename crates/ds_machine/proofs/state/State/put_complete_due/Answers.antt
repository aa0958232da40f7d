use Rattle.ds_machine.proofs.Citing.{reply_map}
use Rattle.ds_machine.proofs.PutPlans.{complete_due, put_writable}
use Rattle.ds_machine.proofs.state.State.put_complete_due.Goals as goal

pub say_put_due-requires-clause-writable : goal.say_put_due-requires-clause-writable
say_put_due-requires-clause-writable c =
    put_writable _ _ c.args.turn.now.client c.args.entity.now c.requires.unrefused c.requires.issued

pub returns : goal.returns
returns c = record {
  plan = reply_map _ _ c.say_put_due.result (λ p. complete_due c.args.self.now c.args.turn.now.session.now c.args.turn.now.client
      c.args.entity.now p.body p.effect c.requires.unrefused c.requires.issued) c.say_put_due.ensures.says;
  told = c.say_put_due.ensures.told;
  next = c.say_put_due.ensures.next;
}
