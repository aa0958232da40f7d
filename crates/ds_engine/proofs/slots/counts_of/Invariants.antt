-- The stamps so far.
use Rattle.std.proofs.Common.{◌≡◌, map, take}
use Rattle.ds_engine.proofs.slots.counts_of.Given as goal

abbrev pub invariant-loop-snapshot : goal.invariant-loop-snapshot
invariant-loop-snapshot g l = l.counts.items ≡ map (λ s. s.stamp) (take l.snapshot-index l.snapshots)
