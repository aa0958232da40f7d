use Rattle.std.proofs.Common.{◌≡◌, ◌≤◌, length, take}
use Rattle.ds_scan.specs.Ranges.{prefix_end}
use Rattle.ds_scan.proofs.end.without_greatest.Given as goal

abbrev pub invariant-loop-kept : goal.invariant-loop-kept
invariant-loop-kept l = (l.kept ≤ length l.prefix) × (prefix_end (take l.kept l.prefix) ≡ prefix_end l.prefix)

abbrev pub decreases-loop-kept : goal.decreases-loop-kept
decreases-loop-kept l = l.kept
