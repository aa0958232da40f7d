use Rattle.ds_output.proofs.Lengths.{room_for_commit, room_for_ids}
use Rattle.ds_output.proofs.bounds.make_room_for_numbers.Goals as goal

pub returns-clause-commit : goal.returns-clause-commit
returns-clause-commit c = λ ok. room_for_commit c.args.keep c.make_beside.new.text.spare (c.make_beside.ensures.most ok)

pub returns-clause-ids : goal.returns-clause-ids
returns-clause-ids c = λ ok. room_for_ids c.args.keep c.make_beside.new.text.spare (c.make_beside.ensures.most ok)
