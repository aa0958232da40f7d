use Rattle.ds_gql.proofs.EndLaws.{only_sentences_are_read}
use Rattle.ds_gql.proofs.laws.only_sentences_are_read.Goals as goal

pub returns : goal.returns
returns c = only_sentences_are_read
