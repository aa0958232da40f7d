use Rattle.ds_clients.proofs.ClosingLaws.{idle_later}
use Rattle.ds_serving.proofs.appliers.has_applied.Goals as goal

pub returns-in-Ok : goal.returns-in-Ok
returns-in-Ok g c = idle_later c.args.pass.now c.apply_one.new.pass c.in-Ok.ensures.applied.read c.requires.idle

pub returns-in-Err : goal.returns-in-Err
returns-in-Err g c = idle_later c.args.pass.now c.apply_one.new.pass c.in-Err.ensures.read c.requires.idle
