use Rattle.ds_shard.proofs.Ends.{fall_rest}
use Rattle.ds_shard.proofs.expiring.Expiring.pop_due.Goals as goal

pub invariant_of-self : goal.invariant_of-self
invariant_of-self c = fall_rest _ _ c.pop_front.result c.pop_front.ensures.items c.self.invariant
