use Rattle.ds_entity.proofs.Sums.{capped_step}
use Rattle.ds_entity.specs.Entities.{property_size}
use Rattle.ds_entity.proofs.entity_rules.size_of.Goals as goal

pub loop-property-preserved : goal.loop-property-preserved
loop-property-preserved c = capped_step property_size _ _ _ _ _ _ _ _ c.loop-property-test.true c.property-item.is c.loop-property.invariant c.size_of_property.ensures c.capped_sum-size.ensures
