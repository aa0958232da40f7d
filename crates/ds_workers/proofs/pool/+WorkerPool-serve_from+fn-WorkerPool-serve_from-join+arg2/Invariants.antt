-- Each start is for the slot behind.
use Rattle.std.proofs.Common.{◌+◌, ◌*◌, ◌-◌, length}
use Rattle.ds_workers.proofs.pool.+WorkerPool-serve_from+fn-WorkerPool-serve_from-join+arg2.Given as goal

abbrev pub decreases-WorkerPool::serve_from : goal.decreases-WorkerPool::serve_from
decreases-WorkerPool::serve_from g l = 2 * (length l.self.now.slots.items - l.slot) + 1

abbrev pub decreases-join+arg2 : goal.decreases-join+arg2
decreases-join+arg2 g l = 2 * (length l.self.now.slots.items - l.slot)
