use Rattle.std.proofs.Common.{codes, ap, ◌∙◌, Some}
use Rattle.ds_reply.specs.Replies.{done}
use Rattle.ds_reply.proofs.Telling.{two}
use Rattle.ds_reply.proofs.bodies.ids.Goals as goal

pub returns : goal.returns
returns c = c.done.ensures ∙ ap Some (two (done (codes "allocate_ids")) _ _ _ _ c.number-count.ensures c.number-first.ensures)
