use Rattle.ds_load.proofs.TellingSome.{ok_some}
use Rattle.ds_load.proofs.Telling.{both_ok, told_last}
use Rattle.ds_load.proofs.reading.read_last.Goals as goal

pub returns-in-Some-clause-told : goal.returns-in-Some-clause-told
returns-in-Some-clause-told c =
    both_ok c.read_answer.result (λ s counted told. told_last c.args.items c.args.lines.now c.in-Some.line.now s c.in-Some.ensures.value
    counted told)
    c.read_answer.ensures.counted c.read_answer.ensures.told

pub returns-in-Some-clause-settled : goal.returns-in-Some-clause-settled
returns-in-Some-clause-settled c = ok_some c.read_answer.result (c.is_settled.ensures c.if-not-is_settled.false)
