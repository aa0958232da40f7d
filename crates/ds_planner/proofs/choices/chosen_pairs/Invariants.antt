use Rattle.std.proofs.Common.{◌≡◌, [], take, fold}
use Rattle.ds_planner.specs.Choices.{with_choice}
use Rattle.ds_planner.proofs.choices.chosen_pairs.Given as goal

abbrev pub invariant-loop-pair : goal.invariant-loop-pair
invariant-loop-pair l =
    l.chosen.items ≡ fold (with_choice l.branch l.defs l.index (record { equal = l.equal; ancestor = l.ancestor })) [] (take l.pair-index l.branch.equal)
