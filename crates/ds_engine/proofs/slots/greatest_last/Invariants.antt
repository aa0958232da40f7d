-- The greatest so far and that of the snapshots that are left are that of all.
use Rattle.std.proofs.Common.{◌≡◌, drop}
use Rattle.std.specs.Prelude.{max}
use Rattle.ds_engine.specs.Counted.{greatest_last}
use Rattle.ds_engine.proofs.slots.greatest_last.Given as goal

abbrev pub invariant-loop-snapshot : goal.invariant-loop-snapshot
invariant-loop-snapshot g l = max (greatest_last (drop l.snapshot-index l.snapshots)) l.greatest ≡ greatest_last l.snapshots
