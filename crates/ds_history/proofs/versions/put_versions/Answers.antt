use Rattle.std.proofs.Common.{◌∙◌, ap}
use Rattle.ds_base.specs.KeyOrder.{same_key}
use Rattle.ds_history.specs.Versions.{items_in}
use Rattle.ds_history.proofs.Kept.{items_if}
use Rattle.ds_history.proofs.versions.put_versions.Goals as goal

pub returns-in-Ok : goal.returns-in-Ok
returns-in-Ok c = λ k. ap items_in (c.in-Ok.ensures.updates.0 k) ∙ items_if (same_key c.args.key k) _ _
