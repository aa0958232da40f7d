use Rattle.std.proofs.Common.{map, ap, ◌∙◌}
use Rattle.ds_hub.specs.Holding.{hub_in, known_in}
use Rattle.ds_engine.proofs.SlotLaws.{left-hubs, left-known}
use Rattle.ds_engine.proofs.slots.leave.Goals as goal

pub returns-clause-hubs : goal.returns-clause-hubs
returns-clause-hubs c = ap (map hub_in) c.leave_all.ensures ∙ left-hubs c.args.slots.now

pub returns-clause-known : goal.returns-clause-known
returns-clause-known c = ap (map known_in) c.leave_all.ensures ∙ left-known c.args.slots.now
