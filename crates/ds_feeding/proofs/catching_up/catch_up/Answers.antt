use Rattle.ds_store_passes.proofs.Seeing.{HasRead-through}
use Rattle.ds_feeding.proofs.CatchingUpLaws.{caught_up}
use Rattle.ds_feeding.proofs.catching_up.catch_up.Goals as goal

pub returns-in_err-settle-2-clause-read : goal.returns-in_err-settle-2-clause-read
returns-in_err-settle-2-clause-read g c =
    HasRead-through c.args.pass.now c.meet_other.new.pass c.settle-2.new.pass
    (HasRead-through c.args.pass.now c.settle.new.pass c.meet_other.new.pass c.in_ok-settle.ensures.settled.read c.meet_other.ensures.read)
    c.in_err-settle-2.ensures.read

pub returns-clause-read : goal.returns-clause-read
returns-clause-read g c =
    HasRead-through c.args.pass.now c.meet_other.new.pass c.settle-2.new.pass
    (HasRead-through c.args.pass.now c.settle.new.pass c.meet_other.new.pass c.in_ok-settle.ensures.settled.read c.meet_other.ensures.read)
    c.in_ok-settle-2.ensures.settled.read

pub returns-clause-caught_up : goal.returns-clause-caught_up
returns-clause-caught_up g c =
    let settled = c.in_ok-settle-2.field-0 in
    caught_up c.args.store.now.shards c.args.old.now c.meet_other.new.pass c.settle-2.new.pass settled.place settled.counts settled.commit
    c.meet_other.ensures.place c.meet_other.ensures.counts c.meet_other.ensures.next c.in_ok-settle-2.ensures.settled
