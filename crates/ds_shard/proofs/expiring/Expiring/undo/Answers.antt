use Rattle.std.proofs.Common.{sym, subst}
use Rattle.ds_shard.specs.Expiries.{AreBy}
use Rattle.ds_shard.proofs.expiring.Expiring.undo.Goals as goal

pub returns-clause-still_by : goal.returns-clause-still_by
returns-clause-still_by c = λ most by. c.take_off.ensures.still_by most (subst (AreBy most) (sym c.self.view_is) by)
