use Rattle.std.proofs.Common.{arith}
use Rattle.ds_gql_printing.proofs.PrintingSteps.{values_turn, values_end}
use Rattle.ds_gql_printing.proofs.printer.Printer.put_further_values.Goals as goal

pub loop-value-preserved : goal.loop-value-preserved
loop-value-preserved c = λ u h. c.loop-value.invariant u
    (values_turn c.loop-value.self c.put_mark.new.self c.put_value.new.self u c.args.values.now c.loop-value.value-index c.value-item.result (omega arith) c.value-item.is c.put_mark.ensures c.put_value.ensures h)

pub returns : goal.returns
returns c = c.loop-value.invariant c.loop-value.self (values_end c.loop-value.self c.args.values.now c.loop-value.value-index (omega arith))
