use Rattle.ds_base.specs.IndexOrderLaws.{index_value_cmp-Equal}
use Rattle.ds_base.proofs.index_order.IndexValueOrd.cmp.Goals as goal

pub returns-clause-same : goal.returns-clause-same
returns-clause-same c = rw c.compare_values.ensures (index_value_cmp-Equal _ _)
