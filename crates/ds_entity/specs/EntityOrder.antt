-- Entities in the order of their keys.
use Rattle.std.specs.Prelude.{List}
use Rattle.std.specs.Ordering.{on}
use Rattle.std.specs.declared.cmp.Ordering.{Ordering}
use Rattle.ds_base.specs.KeyOrder.{key_cmp}
use Rattle.ds_entity.specs.Entities.{EntityParts}
use Rattle.ds_base.specs.Sorting.{sorted_by}

-- entities compare by their keys
abbrev pub entity_cmp : EntityParts → EntityParts → Ordering
entity_cmp = on (λ (e : EntityParts). e.key) key_cmp

-- entities of distinct keys have one such order
abbrev pub sorted_by_key : List EntityParts → List EntityParts
sorted_by_key = sorted_by entity_cmp
