use Rattle.std.proofs.Common.{◌≡◌, List, ℕ, take}
use Rattle.ds_query.specs.Filters.{has_one_of}
use Rattle.ds_query.specs.Reasons.{has_name}
use Rattle.ds_query.proofs.filters.one_of_names.Given as goal

abbrev pub invariant-loop-filter : goal.invariant-loop-filter
invariant-loop-filter l = (n : List ℕ) → has_name l.names n ≡ has_one_of (take l.filter-index l.filters) n
