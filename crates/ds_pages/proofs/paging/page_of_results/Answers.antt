use Rattle.std.proofs.Common.{map}
use Rattle.ds_base.specs.Sorting.{sorted_by}
use Rattle.ds_pages.specs.Places.{compare_rows, parts_of}
use Rattle.ds_pages.proofs.PageLaws.{page_taken, given_both}
use Rattle.ds_pages.proofs.PlaceOrder.{sorted_rows}
use Rattle.ds_pages.proofs.paging.page_of_results.Goals as goal

pub returns : goal.returns
returns c columns placed =
    let rows = c.args.rows.items in
    let sorted = c.in_ok-sorted.sorted.items in
    given_both c.page.result c.page.ensures.rows c.page.ensures.next (λ m some next.
    page_taken columns c.args.window.now (sorted_by (compare_rows columns) (map parts_of rows)) sorted m
    (sorted_rows columns rows sorted placed c.in_ok-sorted.ensures.sorted c.in_ok-sorted.ensures.permutation) some next)
