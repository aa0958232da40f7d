use Rattle.ds_base.specs.KeyOrderLaws.{key_cmp-Equal}
use Rattle.ds_base.proofs.key_order.KeyOrd.cmp.Goals as goal

pub returns-clause-same : goal.returns-clause-same
returns-clause-same c = rw c.compare_keys.ensures (key_cmp-Equal _ _)
