use Rattle.std.proofs.Common.{◌≡◌, ◌-◌, ◌≤◌, length, take}
use Rattle.std.specs.Io.KnownBytes.{Appends}
use Rattle.ds_io.proofs.writing.write_all.Given as goal

abbrev pub decreases-write : goal.decreases-write
decreases-write g l = length l.text - l.sent

-- what was taken is the text's beginning, and no write failed
abbrev pub invariant-write : goal.invariant-write
invariant-write g l =
    (l.sent ≤ length l.text) × Appends (g.O.Sink.held l.fn.output) (g.O.Sink.held l.output) (take l.sent l.text)
    × (g.O.Sink.faults l.output ≡ g.O.Sink.faults l.fn.output)
