use Rattle.std.proofs.Common.{◌≡◌, length}
use Rattle.ds_indexdef.specs.Lines.{is_space, without_end}
use Rattle.ds_indexdef.proofs.lines.without_end.Given as goal

abbrev pub invariant-loop-left : goal.invariant-loop-left
invariant-loop-left l = without_end is_space l.fn.text ≡ without_end is_space l.left

abbrev pub decreases-loop-left : goal.decreases-loop-left
decreases-loop-left l = length l.left
