use Rattle.std.proofs.Common.{◌≡◌, ℕ}
use Rattle.std.specs.VecDeque.{deque_len}
use Rattle.ds_shard.specs.Expiries.{AreBy, DoNotFall, others}
use Rattle.ds_shard.proofs.expiring.take_off.Given as goal

abbrev pub invariant-loop-queue : goal.invariant-loop-queue
invariant-loop-queue l = record {
  fall : DoNotFall l.queue.items;
  same_others : others l.stamp l.queue.items ≡ others l.stamp l.initial.queue.items;
  still_by : (most : ℕ) → AreBy most l.initial.queue.items → AreBy most l.queue.items;
}

abbrev pub decreases-loop-queue : goal.decreases-loop-queue
decreases-loop-queue l = deque_len l.queue
