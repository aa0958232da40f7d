use Rattle.ds_clients.proofs.ClosingLaws.{idle_later}
use Rattle.ds_serving.proofs.appliers.has_applied_free.Goals as goal

pub returns-in-Some : goal.returns-in-Some
returns-in-Some g c = idle_later c.args.pass.now c.apply_if_free.new.pass c.in-Some.ensures.read c.requires.idle

pub returns-in-None : goal.returns-in-None
returns-in-None g c = idle_later c.args.pass.now c.apply_if_free.new.pass c.in-None.ensures c.requires.idle
