use Rattle.ds_rows.proofs.Gathering.{gathered_step}
use Rattle.ds_rows.proofs.indexed.distinct_values.Goals as goal

pub loop-value-preserved : goal.loop-value-preserved
loop-value-preserved c =
    gathered_step c.args.property.now.values c.as_slice-value-items.result.now c.loop-value.value-index c.value-item.result
    c.loop-value.distinct.keys
    c.insert_indexed.new.distinct.keys c.as_slice-value-items.ensures c.loop-value-test.true c.value-item.is c.loop-value.invariant
    c.in_ok-insert_indexed.ensures
