use Rattle.std.proofs.Common.{◌≡◌, [], take, map, fold}
use Rattle.ds_planner.specs.Parts.{pair_part}
use Rattle.ds_planner.specs.Choices.{with_part}
use Rattle.ds_planner.proofs.choices.scans_by_part.Given as goal

abbrev pub invariant-loop-pair : goal.invariant-loop-pair
invariant-loop-pair l =
    l.scans.items ≡ fold (with_part l.branch l.defs) [] (map pair_part (take l.pair-index l.branch.equal))
