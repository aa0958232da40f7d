use Rattle.std.proofs.Common.{◌≡◌, take}
use Rattle.std.specs.List.{range_with_len}
use Rattle.ds_told.proofs.ranges.is_range.Given as goal

-- so far they are
abbrev pub invariant-loop-i : goal.invariant-loop-i
invariant-loop-i l = take l.i l.numbers ≡ range_with_len 1 l.i
