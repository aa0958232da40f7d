use Rattle.std.proofs.Common.{◌∙◌, ap}
use Rattle.ds_base.specs.KeyOrder.{same_key}
use Rattle.ds_history.specs.Writers.{numbers_in}
use Rattle.ds_history.proofs.Kept.{numbers_if}
use Rattle.ds_history.proofs.writers.take_out.Goals as goal

pub returns-in-Some-clause-left : goal.returns-in-Some-clause-left
returns-in-Some-clause-left c = λ g. ap numbers_in (c.swap_remove.ensures.updates.0 g) ∙ numbers_if (same_key c.args.group.now g) _ _

pub returns-in-None-clause-left : goal.returns-in-None-clause-left
returns-in-None-clause-left c = λ g. ap numbers_in (c.swap_remove.ensures.updates.0 g) ∙ numbers_if (same_key c.args.group.now g) _ _
