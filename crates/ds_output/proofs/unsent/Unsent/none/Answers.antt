use Rattle.ds_output.proofs.TextLaws.{bytes-empty}
use Rattle.ds_output.proofs.unsent.Unsent.none.Goals as goal

pub returns : goal.returns
returns c = bytes-empty c.no_texts.result c.no_texts.ensures.empty
