use Rattle.ds_hub.proofs.Beginnings.{begins_itself}
use Rattle.ds_hub.proofs.slot.entered.Goals as goal

pub returns-in-Err-clause-known : goal.returns-in-Err-clause-known
returns-in-Err-clause-known g c = rw (c.in-Err.ensures, c.left.ensures) (begins_itself _)
