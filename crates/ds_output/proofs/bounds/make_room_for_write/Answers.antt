use Rattle.ds_output.proofs.Lengths.{room_for_write}
use Rattle.ds_output.proofs.bounds.make_room_for_write.Goals as goal

pub returns-clause-suffices : goal.returns-clause-suffices
returns-clause-suffices c = λ ok.
    room_for_write c.args.key.now c.args.keep c.make_most.new.text.spare c.make_most.ensures.lawful (c.make_most.ensures.most ok)
