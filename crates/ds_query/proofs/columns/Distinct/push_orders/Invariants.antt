use Rattle.std.proofs.Common.{◌≡◌, ◌&&◌, not, drop, fold, filter}
use Rattle.ds_query.specs.Reasons.{has_name}
use Rattle.ds_query.specs.ColumnLists.{AreNamesOf, with_column, up_to_key}
use Rattle.ds_query.proofs.columns.Distinct.push_orders.Given as goal

abbrev pub invariant-loop-order : goal.invariant-loop-order
invariant-loop-order l =
    AreNamesOf l.self.names l.self.columns.items
    × (fold with_column l.initial.self.columns.items (filter (λ c. not (has_name l.dropped c.name && not (has_name l.kept c.name))) (up_to_key l.orders)) ≡ fold with_column l.self.columns.items (filter (λ c. not (has_name l.dropped c.name && not (has_name l.kept c.name))) (up_to_key (drop l.order-index l.orders))))
