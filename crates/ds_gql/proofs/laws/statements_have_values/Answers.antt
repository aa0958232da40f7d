use Rattle.ds_gql.proofs.StatementValues.{statements_have_values}
use Rattle.ds_gql.proofs.laws.statements_have_values.Goals as goal

pub returns : goal.returns
returns c = statements_have_values
