use Rattle.std.proofs.Common.{◌≡◌, min, length, take}
use Rattle.ds_base.specs.Limits.{greatest_told}
use Rattle.ds_query.specs.Branching.{conditions}
use Rattle.ds_query.proofs.splitting.count_conditions.Given as goal

abbrev pub invariant-loop-filter : goal.invariant-loop-filter
invariant-loop-filter l = l.count ≡ min (length (conditions (take l.filter-index l.filters))) greatest_told
