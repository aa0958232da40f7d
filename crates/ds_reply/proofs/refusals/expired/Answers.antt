use Rattle.std.proofs.Common.{codes, ap, ◌∙◌, Some}
use Rattle.ds_reply.specs.Refusals.{refused}
use Rattle.ds_reply.proofs.Telling.{three}
use Rattle.ds_reply.proofs.refusals.expired.Goals as goal

pub returns : goal.returns
returns c =
    c.refused.ensures
    ∙ ap Some (three (refused 23 (codes "Expired")) _ _ _ _ _ _ c.number-applied.ensures c.number-place.ensures c.number-snapshot.ensures)
