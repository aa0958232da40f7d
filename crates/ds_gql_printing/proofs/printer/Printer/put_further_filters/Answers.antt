use Rattle.std.proofs.Common.{arith}
use Rattle.ds_query.specs.Filters.{has_operands}
use Rattle.ds_query.specs.declared.query.Filter.{Filter}
use Rattle.ds_gql_printing.specs.Printing.{is_written_name}
use Rattle.ds_gql_printing.proofs.PrintingSteps.{all_at, filters_turn, filters_end}
use Rattle.ds_gql_printing.proofs.printer.Printer.put_further_filters.Goals as goal

pub put_filter-requires-clause-name : goal.put_filter-requires-clause-name
put_filter-requires-clause-name c = all_at (λ (f : Filter). is_written_name f.property) c.args.filters.now c.loop-filter.filter-index c.filter-item.result c.requires.names (omega arith) c.filter-item.is

pub put_filter-requires-clause-values : goal.put_filter-requires-clause-values
put_filter-requires-clause-values c = all_at has_operands c.args.filters.now c.loop-filter.filter-index c.filter-item.result c.requires.values (omega arith) c.filter-item.is

pub loop-filter-preserved : goal.loop-filter-preserved
loop-filter-preserved c = λ u h. c.loop-filter.invariant u
    (filters_turn c.loop-filter.self c.put_mark.new.self c.put_filter.new.self u c.args.filters.now c.loop-filter.filter-index c.filter-item.result (omega arith) c.filter-item.is c.put_mark.ensures c.put_filter.ensures h)

pub returns : goal.returns
returns c = c.loop-filter.invariant c.loop-filter.self (filters_end c.loop-filter.self c.args.filters.now c.loop-filter.filter-index (omega arith))
