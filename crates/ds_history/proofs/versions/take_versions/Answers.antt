use Rattle.std.proofs.Common.{◌∙◌, ap}
use Rattle.ds_base.specs.KeyOrder.{same_key}
use Rattle.ds_history.specs.Versions.{items_in}
use Rattle.ds_history.proofs.Kept.{items_if}
use Rattle.ds_history.proofs.versions.take_versions.Goals as goal

pub returns-in-Some-clause-left : goal.returns-in-Some-clause-left
returns-in-Some-clause-left c = λ k. ap items_in (c.remove.ensures.updates.0 k) ∙ items_if (same_key c.args.key.now k) _ _

pub returns-in-None-clause-left : goal.returns-in-None-clause-left
returns-in-None-clause-left c = λ k. ap items_in (c.remove.ensures.updates.0 k) ∙ items_if (same_key c.args.key.now k) _ _
