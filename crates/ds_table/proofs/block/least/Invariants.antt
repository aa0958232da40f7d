use Rattle.std.proofs.Common.{◌≤◌, take}
use Rattle.std.specs.List.{AllByRecursion as Each}
use Rattle.ds_table.proofs.block.least.Given as goal

abbrev pub invariant-loop-stamp : goal.invariant-loop-stamp
invariant-loop-stamp l = Each (λ s. l.least ≤ s) (take l.stamp-index l.stamps)
