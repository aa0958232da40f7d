use Rattle.std.proofs.Common.{length, subst, sym}
use Rattle.ds_engine.specs.Counted.{AreInPlace}
use Rattle.ds_engine.proofs.SlotLaws.{as_many, begun-same, placed-same}
use Rattle.ds_engine.proofs.slots.query_slots_wide.Goals as goal

pub answer_wide-answer-requires-clause-begun : goal.answer_wide-answer-requires-clause-begun
answer_wide-answer-requires-clause-begun g c κs within =
    begun-same g.L.Ledger.parts c.args.query.now.defs.now c.args.kept c.args.slots.now c.enter.new.slots c.enter.ensures.hubs c.requires.begun

pub answer_wide-answer-requires-clause-placed : goal.answer_wide-answer-requires-clause-placed
answer_wide-answer-requires-clause-placed g c κs within =
    subst (λ n. AreInPlace n 0 c.enter.new.slots) (sym (as_many c.enter.new.slots c.args.slots.now c.enter.ensures.hubs))
    (placed-same (length c.args.slots.now) 0 c.args.slots.now c.enter.new.slots c.enter.ensures.hubs c.requires.placed)
