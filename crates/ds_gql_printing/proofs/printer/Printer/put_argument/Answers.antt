use Rattle.ds_gql_printing.proofs.PrintingSteps.{puts_argument}
use Rattle.ds_gql_printing.proofs.printer.Printer.put_argument.Goals as goal

pub returns : goal.returns
returns c = puts_argument c.args.self.now c.push_argument.new.self c.put_last_number.new.self c.args.value c.requires.bound c.requires.lawful c.push_argument.ensures c.put_last_number.ensures.bounded c.put_last_number.ensures.text
