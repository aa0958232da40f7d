use Rattle.std.proofs.Common.{◌≡◌, ◌+◌, ◌≤◌, map}
use Rattle.ds_zigzag.specs.Targets.{string_below}
use Rattle.ds_zigzag.proofs.Progress.{Progress, left}
use Rattle.ds_zigzag.proofs.leapfrog.leapfrog.Given as goal

abbrev pub invariant-loop-agreed : goal.invariant-loop-agreed
invariant-loop-agreed g l = record {
  progress : Progress (string_below l.initial.target.items) (map g.S.Scan.strings l.initial.scans) (map g.S.Scan.passed l.initial.scans) l.target.items l.turn l.agreed l.initial.steps l.steps;
  sought : l.initial.steps + l.agreed ≤ l.steps;
  same_strings : map g.S.Scan.strings l.scans ≡ map g.S.Scan.strings l.initial.scans;
  same_passed : map g.S.Scan.passed l.scans ≡ map g.S.Scan.passed l.initial.scans;
}

abbrev pub decreases-loop-agreed : goal.decreases-loop-agreed
decreases-loop-agreed g l = left (map g.S.Scan.strings l.initial.scans) l.target.items l.agreed
