use Rattle.std.proofs.Common.{◌≡◌, drop}
use Rattle.std.specs.List.{find}
use Rattle.ds_planner.specs.Choices.{can_bind}
use Rattle.ds_planner.proofs.choices.first_that_can_bind.Given as goal

abbrev pub invariant-loop-index : goal.invariant-loop-index
invariant-loop-index l =
    find (can_bind l.branch l.defs (record { equal = l.equal; ancestor = l.ancestor })) l.found
    ≡ find (can_bind l.branch l.defs (record { equal = l.equal; ancestor = l.ancestor })) (drop l.index-index l.found)
