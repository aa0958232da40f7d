use Rattle.std.proofs.Common.{refl, ◌∙◌}
use Rattle.ds_journal_text.specs.Texts.{touch_items, touch_data}
use Rattle.ds_journal_text.proofs.Appending.{items_more, item_put}
use Rattle.ds_journal_text.proofs.writing.append_touches.Goals as goal

pub loop-touch-preserved : goal.loop-touch-preserved
loop-touch-preserved c =
    let more = items_more touch_items touch_data (λ x xs. refl) c.loop-touch.later c.args.touches.now c.loop-touch.touch-index c.touch-item.result c.loop-touch-test.true in
    let one = rw c.touch-item.is at c.in_ok-append_touch.ensures in
    item_put _ _ _ _ _ _ _ c.in_ok-append_comma.ensures one more ∙ c.loop-touch.invariant
