use Rattle.ds_core.proofs.Words.{ap, arith, is_some, parts}
use Rattle.ds_core.proofs.Calls.{ok-three}
use Rattle.ds_core.proofs.Changing.{advance-reply, advance-still, due_told, ends-none, ends-waits, reply-open}
use Rattle.ds_core.proofs.Legals.{as-many}
use Rattle.ds_core.proofs.machine.Machine.advance.Goals as goal

pub tell_open-requires : goal.tell_open-requires
tell_open-requires c =
    let reply = reply-open _ _ _ _ _ _ (rw c.in-Some-Reply.field-0-is at c.in-Some-Reply.ensures.due) in
    record {
      clients = omega (arith, c.due.ensures.legal.clients);
      places = omega (arith, c.due.ensures.legal.places);
      many = as-many (parts c.due.new.self) c.due.ensures.legal;
      asked = ap is_some reply.1;
      allowed = λ told. (due_told _ _ _ _ _ _ _ told reply.2.due).allowed;
    }

pub returns-in-Some-Reply : goal.returns-in-Some-Reply
returns-in-Some-Reply c =
    let was = c.due.ensures in
    let all = ok-three c.tell_open.result (advance-reply (parts c.args.self.now) (parts c.due.new.self) was.legal c.args.client
    c.requires.client c.args.step was.same was.still was.shown c.in-Some-Reply.plan (parts c.tell_open.new.self)
    (rw c.in-Some-Reply.field-0-is at c.in-Some-Reply.ensures.due)) c.tell_open.ensures in
    record { legal = all.0; same = all.1; advances = all.2 }

pub returns-in-Some-Waits : goal.returns-in-Some-Waits
returns-in-Some-Waits c =
    let was = c.due.ensures in
    let all = advance-still (parts c.args.self.now) (parts c.due.new.self) was.legal c.args.client c.requires.client c.args.step was.same
    was.still was.shown (ends-waits _ _ _ _ _ _ (rw c.in-Some-Waits.field-0-is at c.in-Some-Waits.ensures.due)) in
    record { legal = all.0; same = all.1; advances = all.2 }

pub returns-in-None : goal.returns-in-None
returns-in-None c =
    let was = c.due.ensures in
    let all = advance-still (parts c.args.self.now) (parts c.due.new.self) was.legal c.args.client c.requires.client c.args.step was.same
    was.still was.shown (ends-none _ _ _ _ _ c.in-None.ensures.due) in
    record { legal = all.0; same = all.1; advances = all.2 }
