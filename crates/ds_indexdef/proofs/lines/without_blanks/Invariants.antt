use Rattle.std.proofs.Common.{◌≡◌, length}
use Rattle.ds_indexdef.specs.Lines.{is_blank, without_front}
use Rattle.ds_indexdef.proofs.lines.without_blanks.Given as goal

abbrev pub invariant-loop-left : goal.invariant-loop-left
invariant-loop-left l = without_front is_blank l.fn.text ≡ without_front is_blank l.left

abbrev pub decreases-loop-left : goal.decreases-loop-left
decreases-loop-left l = length l.left
