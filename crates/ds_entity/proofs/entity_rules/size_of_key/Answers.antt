use Rattle.ds_entity.proofs.Sums.{capped_step}
use Rattle.ds_entity.specs.Entities.{elem_size}
use Rattle.ds_entity.proofs.entity_rules.size_of_key.Goals as goal

pub loop-elem-preserved : goal.loop-elem-preserved
loop-elem-preserved c = capped_step elem_size _ _ _ _ _ _ _ _ c.loop-elem-test.true c.elem-item.is c.loop-elem.invariant c.size_of_elem.ensures c.capped_sum-size-in-loop-elem.ensures
