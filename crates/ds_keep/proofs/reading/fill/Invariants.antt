-- The first bytes were read, and nothing else changed.
use Rattle.std.proofs.Common.{◌≡◌, ◌-◌, length}
use Rattle.std.specs.Prelude.{IsTrue}
use Rattle.ds_keep.specs.Reading.{IsPrefix, Stays}
use Rattle.ds_keep.proofs.reading.fill.Given as goal

abbrev pub invariant-pieces : goal.invariant-pieces
invariant-pieces g l = record {
  stays : Stays g.D.Disk.is_honest g.D.Disk.images g.D.Disk.moment g.D.Disk.left_since g.D.Disk.faults l.fn.disk l.disk;
  contents : IsTrue (g.D.Disk.is_honest l.fn.disk) → g.D.Disk.contents l.disk ≡ g.D.Disk.contents l.fn.disk;
  bytes : IsTrue (g.D.Disk.is_honest l.fn.disk) → IsPrefix l.file.items (g.D.Disk.contents l.fn.disk);
}

abbrev pub decreases-pieces : goal.decreases-pieces
decreases-pieces g l = l.len - length l.file.items
