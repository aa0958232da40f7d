use Rattle.std.proofs.Common.{◌≡◌, List, fold, take}
use Rattle.ds_entity.specs.Entities.{EntityParts}
use Rattle.ds_log.specs.After.{apply_write}
use Rattle.ds_entity.specs.EntityOrder.{sorted_by_key}
use Rattle.ds_applied.proofs.entity_map.EntityMap.apply_all.Given as goal

-- so far the first writes are applied
abbrev pub invariant-loop-write : goal.invariant-loop-write
invariant-loop-write l =
    (es : List EntityParts) → l.initial.self ≡ sorted_by_key es → l.self ≡ sorted_by_key (fold apply_write es (take l.write-index l.writes))
