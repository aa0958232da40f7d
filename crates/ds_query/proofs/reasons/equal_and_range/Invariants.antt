use Rattle.std.proofs.Common.{◌≡◌, ◌&&◌, take, false}
use Rattle.std.specs.List.{list_any}
use Rattle.ds_query.specs.Filters.{is_inequality, has_equality}
use Rattle.ds_query.proofs.reasons.equal_and_range.Given as goal

abbrev pub invariant-loop-filter : goal.invariant-loop-filter
invariant-loop-filter l = list_any (λ f. is_inequality f && has_equality l.filters f.property) (take l.filter-index l.filters) ≡ false
