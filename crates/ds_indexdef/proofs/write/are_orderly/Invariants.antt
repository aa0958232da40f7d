use Rattle.std.proofs.Common.{◌≡◌, length}
use Rattle.ds_indexdef.specs.Grammar.{are_orderly}
use Rattle.ds_indexdef.proofs.write.are_orderly.Given as goal

abbrev pub invariant-loop-left : goal.invariant-loop-left
invariant-loop-left l = are_orderly l.fn.columns ≡ are_orderly l.left

abbrev pub decreases-loop-left : goal.decreases-loop-left
decreases-loop-left l = length l.left
