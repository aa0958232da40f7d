use Rattle.std.proofs.Common.{◌≡◌, ◌-◌, ◌≤◌, length}
use Rattle.std.specs.Io.KnownBytes.{Consumes}
use Rattle.ds_replication.specs.Replicating.{most_script_bytes}
use Rattle.ds_replication.proofs.reading.read_by.Given as goal

abbrev pub decreases-read : goal.decreases-read
decreases-read g l = most_script_bytes - length l.text.items

-- what was read so far, within the limit, and no read failed
abbrev pub invariant-read : goal.invariant-read
invariant-read g l =
    Consumes (g.I.Source.left l.fn.input) (g.I.Source.left l.input) l.text.items × (length l.text.items ≤ most_script_bytes)
    × (g.I.Source.faults l.input ≡ g.I.Source.faults l.fn.input)
