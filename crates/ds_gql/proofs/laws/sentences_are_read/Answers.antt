use Rattle.ds_gql.proofs.SentenceLaws.{sentences_are_read}
use Rattle.ds_gql.proofs.laws.sentences_are_read.Goals as goal

pub returns : goal.returns
returns c = sentences_are_read
