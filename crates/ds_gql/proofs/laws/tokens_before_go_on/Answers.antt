use Rattle.ds_gql.proofs.GoingOnLaws.{tokens_before_go_on}
use Rattle.ds_gql.proofs.laws.tokens_before_go_on.Goals as goal

pub returns : goal.returns
returns c = tokens_before_go_on
