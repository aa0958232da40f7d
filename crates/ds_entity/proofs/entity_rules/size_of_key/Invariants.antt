use Rattle.std.proofs.Common.{◌≡◌, ◌+◌, length, take, min}
use Rattle.std.specs.Prelude.{sum_by}
use Rattle.ds_entity.specs.Entities.{elem_size}
use Rattle.ds_base.specs.Limits.{greatest_told}
use Rattle.ds_entity.proofs.entity_rules.size_of_key.Given as goal

abbrev pub invariant-loop-elem : goal.invariant-loop-elem
invariant-loop-elem l = l.size ≡ min (length l.key.namespace + sum_by elem_size (take l.elem-index l.elem-items)) greatest_told
