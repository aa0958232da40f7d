use Rattle.std.proofs.Common.{refl}
use Rattle.ds_reply.specs.Results.{column_items, column_data}
use Rattle.ds_json_printing.proofs.Chains.{items-more}
use Rattle.ds_reply.proofs.results.write_columns.Goals as goal

pub loop-column-preserved : goal.loop-column-preserved
loop-column-preserved g c =
    let j = g.met.O.Output.joined in
    let more = items-more column_items column_data (λ x xs. refl) c.loop-column.later c.args.columns.now c.loop-column.column-index c.column-item.result c.loop-column-test.true in
    let one = rw c.column-item.is at c.write_column.ensures in
    λ u h. c.loop-column.invariant u (rw more at (j _ _ _ _ _ c.write_comma.ensures (j _ _ _ _ _ one h)))
