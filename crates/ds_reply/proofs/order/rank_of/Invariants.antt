-- The names from this place on stand behind the name that is looked for.
use Rattle.std.proofs.Common.{◌<◌, ◌≤◌, length, map, get_or, []}
use Rattle.ds_reply.specs.Orders.{IsBefore, name_at}
use Rattle.ds_reply.proofs.order.rank_of.Given as goal

abbrev pub invariant-loop-at : goal.invariant-loop-at
invariant-loop-at g l = record {
  within : l.at ≤ length l.places;
  behind : l.at < length l.places → IsBefore (get_or (map g.T.HasName.text l.items) l.i []) (name_at (map g.T.HasName.text l.items) l.places l.at);
}

abbrev pub decreases-loop-at : goal.decreases-loop-at
decreases-loop-at g l = l.at
