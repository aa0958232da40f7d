use Rattle.std.proofs.Common.{◌≡◌, take}
use Rattle.ds_judging_lines.proofs.counts.copy_counts.Given as goal

-- so far the first counts are copied
abbrev pub invariant-loop-count : goal.invariant-loop-count
invariant-loop-count l = l.copy.items ≡ take l.count-index l.counts
