use Rattle.std.proofs.Common.{◌≡◌, ◌+◌, length, take, min}
use Rattle.std.specs.Prelude.{sum_by}
use Rattle.ds_entity.specs.Entities.{value_size}
use Rattle.ds_base.specs.Limits.{greatest_told}
use Rattle.ds_entity.proofs.entity_rules.size_of_property.Given as goal

abbrev pub invariant-loop-value : goal.invariant-loop-value
invariant-loop-value l = l.size ≡ min ((16 + length l.property.name) + sum_by value_size (take l.value-index l.value-items)) greatest_told
