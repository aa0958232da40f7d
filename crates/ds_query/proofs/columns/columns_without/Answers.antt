use Rattle.std.proofs.Common.{◌∙◌, ◌&&◌, not}
use Rattle.ds_query.specs.Reasons.{has_name}
use Rattle.ds_query.proofs.ColumnLemmas.{columns_put}
use Rattle.ds_query.proofs.columns.columns_without.Goals as goal

pub returns : goal.returns
returns c =
    c.from.ensures ∙ columns_put (λ n. has_name c.args.dropped.now n && not (has_name c.args.kept.now n)) c.args.query.now c.new.result.items c.push_orders.new.self.columns.items c.push_property.new.self.columns.items c.push_names.new.self.columns.items c.push.new.self.columns.items c.as_slice.result.now c.as_slice-2.result.now _ c.projected.result.now c.new.ensures.items c.as_slice.ensures c.as_slice-2.ensures c.inequality_of.ensures c.projected.ensures c.in_ok-push_orders.ensures.ok c.in_ok-push_property.ensures.ok c.in_ok-push_names.ensures.ok c.in_ok-push.ensures.ok
