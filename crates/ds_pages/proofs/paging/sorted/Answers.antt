use Rattle.std.proofs.Common.{rules}
use Rattle.std.specs.Cmp.Lexicographic.{nat_list_cmp_total}
use Rattle.std.specs.Ordering.{is_lt}
use Rattle.std.proofs.lemmas.Fn.{always_returns_same}
use Rattle.std.proofs.lemmas.List.MinMax.{ranks_by}
use Rattle.ds_query.specs.declared.row.Row.{Row}
use Rattle.ds_pages.specs.Places.{place_cmp}
use Rattle.ds_pages.proofs.paging.sorted.Goals as goal

pub returns-clause-sorted : goal.returns-clause-sorted
returns-clause-sorted c =
    c.in_ok-sort_by.ensures.sorted (λ x y. is_lt (place_cmp x y)) (ranks_by nat_list_cmp_total (λ (r : Row). r.place.bytes))
    (always_returns_same _ _ _ (λ a r g called. search rules))
