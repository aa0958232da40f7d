use Rattle.std.proofs.Common.{◌≡◌, drop}
use Rattle.ds_query.specs.Reasons.{first_left}
use Rattle.ds_query.proofs.reasons.first_left.Given as goal

abbrev pub invariant-loop-order : goal.invariant-loop-order
invariant-loop-order l = first_left l.query.filters l.query.orders ≡ first_left l.query.filters (drop l.order-index l.query.orders)
