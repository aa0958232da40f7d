use Rattle.std.proofs.Common.{◌≡◌, ◌++◌, map}
use Rattle.std.specs.Map.Iter.{deref}
use Rattle.ds_applied.proofs.entity_map.EntityMap.put_all.Given as goal

-- so far the entities that were walked over stand behind the others
abbrev pub invariant-loop-entity : goal.invariant-loop-entity
invariant-loop-entity l = map (λ e. e.now) l.entities.items ≡ map (λ e. e.now) l.initial.entities.items ++ map deref l.yielded
