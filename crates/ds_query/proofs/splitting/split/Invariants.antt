use Rattle.std.proofs.Common.{◌≡◌, ◌++◌, map, flat_map, take}
use Rattle.ds_query.specs.Branching.{narrowed, ways, as_indexed}
use Rattle.ds_query.proofs.splitting.split.Given as goal

abbrev pub invariant-loop-value : goal.invariant-loop-value
invariant-loop-value l =
    l.onto.items ≡ l.initial.onto.items ++ map (narrowed l.filter.property l.conditions) (flat_map (λ v. ways l.filter.op (as_indexed v)) (take l.value-index l.values))
