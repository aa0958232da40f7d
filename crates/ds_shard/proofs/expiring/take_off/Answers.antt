use Rattle.std.proofs.Common.{refl, sym, ◌∙◌}
use Rattle.ds_shard.proofs.Ends.{fall_off, by_off, others_off}
use Rattle.ds_shard.proofs.expiring.take_off.Goals as goal

pub loop-queue-init : goal.loop-queue-init
loop-queue-init c = record { fall = c.requires; same_others = refl; still_by = λ most by. by }

pub loop-queue-preserved-in-loop-queue : goal.loop-queue-preserved-in-loop-queue
loop-queue-preserved-in-loop-queue c =
    let was = c.loop-queue.invariant in
    let off = c.pop_back.ensures.items in
    let last = sym c.is_last_at.ensures ∙ c.loop-queue-test.true in
    record {
      fall = fall_off _ _ c.pop_back.result off was.fall;
      same_others = others_off c.args.stamp _ _ c.pop_back.result off last ∙ was.same_others;
      still_by = λ most by. by_off most _ _ c.pop_back.result off (was.still_by most by);
    }
