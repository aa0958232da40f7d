use Rattle.ds_bytes.specs.AncestorLaws.{ancestor_begins}
use Rattle.ds_bytes.proofs.laws.keys_under_one_begin_alike.Goals as goal

pub returns : goal.returns
returns c = ancestor_begins
