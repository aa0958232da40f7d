use Rattle.ds_entity.proofs.Sums.{capped_step}
use Rattle.ds_entity.specs.Entities.{value_size}
use Rattle.ds_entity.proofs.entity_rules.size_of_property.Goals as goal

pub loop-value-preserved : goal.loop-value-preserved
loop-value-preserved c = capped_step value_size _ _ _ _ _ _ _ _ c.loop-value-test.true c.value-item.is c.loop-value.invariant c.size_of_value.ensures c.capped_sum-size-in-loop-value.ensures
