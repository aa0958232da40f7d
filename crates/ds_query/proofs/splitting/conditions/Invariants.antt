use Rattle.std.proofs.Common.{◌≡◌, take}
use Rattle.ds_query.specs.Branching.{conditions}
use Rattle.ds_query.proofs.splitting.conditions.Given as goal

abbrev pub invariant-loop-filter : goal.invariant-loop-filter
invariant-loop-filter l = l.found.items ≡ conditions (take l.filter-index l.filters)
