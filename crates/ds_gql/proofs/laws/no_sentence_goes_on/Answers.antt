use Rattle.ds_gql.proofs.SentenceLaws.{no_sentence_goes_on}
use Rattle.ds_gql.proofs.laws.no_sentence_goes_on.Goals as goal

pub returns : goal.returns
returns c = no_sentence_goes_on
