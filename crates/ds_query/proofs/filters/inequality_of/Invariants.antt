use Rattle.std.proofs.Common.{◌≡◌, drop}
use Rattle.ds_query.specs.Filters.{inequality_of}
use Rattle.ds_query.proofs.filters.inequality_of.Given as goal

abbrev pub invariant-loop-filter : goal.invariant-loop-filter
invariant-loop-filter l = inequality_of l.filters ≡ inequality_of (drop l.filter-index l.filters)
