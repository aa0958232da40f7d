use Rattle.ds_gql_printing.proofs.PrintableLaws.{statements_can_be_printed}
use Rattle.ds_gql_printing.proofs.laws.statements_can_be_printed.Goals as goal

pub returns : goal.returns
returns c = statements_can_be_printed
