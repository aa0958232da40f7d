use Rattle.ds_gql_printing.proofs.PrintingSteps.{list_put}
use Rattle.ds_gql_printing.proofs.printer.Printer.put_list.Goals as goal

pub returns : goal.returns
returns c = list_put c.args.self.now c.put_mark.new.self c.put_value.new.self c.put_further_values.new.self c.put_mark-2.new.self c.args.first.now c.args.rest.now c.put_mark.ensures c.put_value.ensures c.put_further_values.ensures c.put_mark-2.ensures
