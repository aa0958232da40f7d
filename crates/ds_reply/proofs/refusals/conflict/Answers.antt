use Rattle.std.proofs.Common.{codes, ap, ◌∙◌, Some}
use Rattle.ds_reply.specs.Refusals.{refused}
use Rattle.ds_reply.proofs.Telling.{three}
use Rattle.ds_reply.proofs.refusals.conflict.Goals as goal

pub returns : goal.returns
returns c =
    c.refused.ensures
    ∙ ap Some (three (refused 13 (codes "Conflict")) _ _ _ _ _ _ c.number-commit.ensures c.key-group.ensures c.number-place.ensures)
