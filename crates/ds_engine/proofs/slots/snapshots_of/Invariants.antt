-- The snapshots so far, and whose entries their shards know.
use Rattle.std.proofs.Common.{◌≡◌, map, take, All}
use Rattle.ds_hub.specs.Holding.{known_in}
use Rattle.ds_engine.specs.Counted.{KnowsOwn}
use Rattle.ds_engine.specs.Snapshots.{newest}
use Rattle.ds_engine.proofs.slots.snapshots_of.Given as goal

abbrev pub invariant-loop-slot : goal.invariant-loop-slot
invariant-loop-slot g l =
    (l.snapshots.items ≡ newest l.defs l.kept (map known_in (take l.slot-index l.slots))) × All KnowsOwn (take l.slot-index l.slots)
