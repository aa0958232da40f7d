use Rattle.ds_history.proofs.Noting.{noted_one}
use Rattle.ds_history.proofs.writers.note.Goals as goal

pub returns : goal.returns
returns c =
    noted_one c.args.group c.args.number _ _ _ c.take_out-numbers.result.commits c.in_ok-numbers.numbers.commits c.put_back.result c.take_out-numbers.ensures.taken
    c.take_out-numbers.ensures.left c.in_ok-numbers.ensures c.put_back.ensures
