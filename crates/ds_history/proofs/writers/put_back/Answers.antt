use Rattle.std.proofs.Common.{◌∙◌, ap}
use Rattle.ds_base.specs.KeyOrder.{same_key}
use Rattle.ds_history.specs.Writers.{numbers_in}
use Rattle.ds_history.proofs.Kept.{numbers_if}
use Rattle.ds_history.proofs.writers.put_back.Goals as goal

pub returns-in-Ok : goal.returns-in-Ok
returns-in-Ok c = λ g. ap numbers_in (c.in-Ok.ensures.updates.0 g) ∙ numbers_if (same_key c.args.group g) _ _
