use Rattle.std.proofs.Common.{refl, ◌∙◌}
use Rattle.ds_journal_text.specs.Texts.{write_items, write_data}
use Rattle.ds_journal_text.proofs.Appending.{items_more, item_put}
use Rattle.ds_journal_text.proofs.writing.append_writes.Goals as goal

pub loop-write-preserved : goal.loop-write-preserved
loop-write-preserved c =
    let more = items_more write_items write_data (λ x xs. refl) c.loop-write.later c.args.writes.now c.loop-write.write-index c.write-item.result c.loop-write-test.true in
    let one = rw c.write-item.is at c.in_ok-append_write.ensures in
    item_put _ _ _ _ _ _ _ c.in_ok-append_comma.ensures one more ∙ c.loop-write.invariant
