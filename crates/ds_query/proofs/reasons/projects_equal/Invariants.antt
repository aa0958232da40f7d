use Rattle.std.proofs.Common.{◌≡◌, take, false}
use Rattle.std.specs.List.{list_any}
use Rattle.ds_query.specs.Filters.{has_equality}
use Rattle.ds_query.proofs.reasons.projects_equal.Given as goal

abbrev pub invariant-loop-name : goal.invariant-loop-name
invariant-loop-name l = list_any (has_equality l.query.filters) (take l.name-index l.name-items) ≡ false
