use Rattle.std.proofs.Common.{◌≡◌, List, ℕ, take}
use Rattle.ds_query.specs.Filters.{has_equality}
use Rattle.ds_query.specs.Reasons.{has_name}
use Rattle.ds_query.proofs.filters.equality_names.Given as goal

abbrev pub invariant-loop-filter : goal.invariant-loop-filter
invariant-loop-filter l = (n : List ℕ) → has_name l.names n ≡ has_equality (take l.filter-index l.filters) n
