use Rattle.std.proofs.Common.{◌≡◌, ◌∙◌, map}
use Rattle.ds_pages.specs.Slots.{slot_of}
use Rattle.ds_pages.proofs.PageLaws.{page_is, given_both}
use Rattle.ds_pages.proofs.paging.page_of_rows.Goals as goal

pub returns : goal.returns
returns c =
    let stand : c.as_slice-2.result.now ≡ map (slot_of c.args.columns.now) c.args.names.now =
    c.as_slice-2.ensures.value ∙ c.in_ok-slots.ensures ∙ (λ i. map (slot_of (c.as_slice.ensures i)) c.args.names.now) in
    given_both c.page.result c.page.ensures.rows c.page.ensures.next (λ m rows next.
    page_is c.args.columns.now c.args.names.now c.args.window.now c.as_slice-2.result.now c.args.rows.items c.in_ok-sorted.sorted.items
    c.in_ok-firsts.firsts.items m c.requires.placed stand c.in_ok-sorted.ensures.sorted c.in_ok-sorted.ensures.permutation
    c.in_ok-firsts.ensures rows next)
