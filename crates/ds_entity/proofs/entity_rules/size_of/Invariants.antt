use Rattle.std.proofs.Common.{◌≡◌, ◌+◌, take, min}
use Rattle.std.specs.Prelude.{sum_by}
use Rattle.ds_entity.specs.Entities.{property_size, key_size}
use Rattle.ds_base.specs.Limits.{greatest_told}
use Rattle.ds_entity.proofs.entity_rules.size_of.Given as goal

abbrev pub invariant-loop-property : goal.invariant-loop-property
invariant-loop-property l = l.size ≡ min (key_size l.key + sum_by property_size (take l.property-index l.properties)) greatest_told
