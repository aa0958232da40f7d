use Rattle.ds_rows.proofs.WayLaws.{counted_step}
use Rattle.ds_rows.proofs.ways.count_ways.Goals as goal

pub loop-column-preserved : goal.loop-column-preserved
loop-column-preserved c =
    counted_step c.args.columns.now c.loop-column.column-index c.loop-column.ways c.in-Some.more _ c.column-item.result
    c.loop-column-test.true
    c.column-item.is c.loop-column.invariant c.in-Some.ensures.1
