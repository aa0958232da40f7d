use Rattle.ds_rounds.proofs.NewlineLaws.{first_newline}
use Rattle.ds_rounds.proofs.newline.newline.Goals as goal

pub returns-clause-at : goal.returns-clause-at
returns-clause-at c = first_newline c.args.bytes.now c.memchr.result c.memchr.ensures
