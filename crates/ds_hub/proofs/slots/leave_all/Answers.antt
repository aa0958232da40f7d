use Rattle.std.proofs.lemmas.List.Edits.{map_over_more}
use Rattle.ds_hub.specs.Holding.{out_of}
use Rattle.ds_hub.proofs.slots.leave_all.Goals as goal

pub loop-slot-preserved : goal.loop-slot-preserved
loop-slot-preserved g c =
    rw (c.leave.ensures, ← c.slot-item.is) (map_over_more out_of _ _ _ c.slot-item.result c.loop-slot-test.true c.loop-slot.invariant c.slot-item.is)
