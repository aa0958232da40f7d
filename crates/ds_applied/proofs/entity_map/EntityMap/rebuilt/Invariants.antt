use Rattle.std.proofs.Common.{◌≡◌, take}
use Rattle.ds_log.specs.After.{after}
use Rattle.ds_log.specs.Logs.{entry_writes}
use Rattle.ds_entity.specs.EntityOrder.{sorted_by_key}
use Rattle.ds_applied.proofs.entity_map.EntityMap.rebuilt.Given as goal

-- so far the first entries are applied
abbrev pub invariant-loop-entry : goal.invariant-loop-entry
invariant-loop-entry l = l.entities ≡ sorted_by_key (after (entry_writes (take l.entry-index l.entries)))
