use Rattle.ds_gql_printing.proofs.PrintingSteps.{sign_no_end, filter_put}
use Rattle.ds_gql_printing.proofs.printer.Printer.put_filter.Goals as goal

pub put_mark-requires : goal.put_mark-requires
put_mark-requires c = rw c.sign_of.ensures (sign_no_end c.args.filter.now.op)

pub returns : goal.returns
returns c =
    filter_put c.args.self.now c.put_name.new.self c.put_mark.new.self c.put_operands.new.self c.args.filter.now c.requires.values
    (rw c.text.ensures at c.put_name.ensures) (rw c.sign_of.ensures at c.put_mark.ensures) (rw c.as_slice.ensures at c.put_operands.ensures)
