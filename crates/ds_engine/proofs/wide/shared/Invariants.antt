-- The snapshots so far.
use Rattle.std.proofs.Common.{◌≡◌, take}
use Rattle.ds_engine.proofs.wide.shared.Given as goal

abbrev pub invariant-loop-snapshot : goal.invariant-loop-snapshot
invariant-loop-snapshot g l = l.shared.items ≡ take l.snapshot-index l.snapshots
