use Rattle.std.proofs.Common.{map}
use Rattle.ds_reply.specs.Orders.{OrdersByName}
use Rattle.ds_reply.proofs.order.places_by_name.Given as goal

abbrev pub invariant-loop-i : goal.invariant-loop-i
invariant-loop-i g l = OrdersByName (map g.T.HasName.text l.items) l.i l.places.items
