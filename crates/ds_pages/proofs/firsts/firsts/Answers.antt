use Rattle.ds_pages.proofs.FirstLaws.{kept_pushed, kept_left}
use Rattle.ds_pages.proofs.firsts.firsts.Goals as goal

pub loop-row-preserved-in_ok-push : goal.loop-row-preserved-in_ok-push
loop-row-preserved-in_ok-push c =
    kept_pushed c.args.slots.now c.loop-row.marks.keys c.insert.new.self.keys c.loop-row.kept.items c.push.new.self.items c.loop-row.yielded
    c.loop-row.invariant c.in-Some.row c.in_ok-mark_of.field-0 c.in_ok-insert.field-0 c.in_ok-mark_of.ensures c.in_ok-insert.ensures.added
    c.in_ok-insert.ensures.keys c.if-branch.true c.in_ok-push.ensures.items

pub loop-row-preserved : goal.loop-row-preserved
loop-row-preserved c =
    kept_left c.args.slots.now c.loop-row.marks.keys c.insert.new.self.keys c.loop-row.kept.items c.loop-row.kept.items c.loop-row.yielded
    c.loop-row.invariant c.in-Some.row c.in_ok-mark_of.field-0 c.in_ok-insert.field-0 c.in_ok-mark_of.ensures c.in_ok-insert.ensures.added
    c.in_ok-insert.ensures.unchanged c.if-branch.false
