use Rattle.ds_output.proofs.Lengths.{room_for_new}
use Rattle.ds_output.proofs.bounds.prepare_key.Goals as goal

pub returns-clause-suffices : goal.returns-clause-suffices
returns-clause-suffices c =
    room_for_new c.args.key.now c.args.keep c.make_most.new.text.spare c.make_most.ensures.lawful
    (c.make_most.ensures.most c.if-not-make_most.false)
