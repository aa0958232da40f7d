use Rattle.std.proofs.Common.{◌≡◌, ◌++◌, drop}
use Rattle.std.specs.Prelude.{filter, flat_map}
use Rattle.ds_planner.specs.Indexes.{is_candidate}
use Rattle.ds_planner.specs.Missing.{two_ways}
use Rattle.ds_planner.proofs.candidates.push_paired.Given as goal

abbrev pub invariant-loop-pair : goal.invariant-loop-pair
invariant-loop-pair l =
    l.initial.found.items ++ filter (is_candidate l.branch l.defs) (flat_map (λ p. two_ways p.property) l.branch.equal)
    ≡ l.found.items ++ filter (is_candidate l.branch l.defs) (flat_map (λ p. two_ways p.property) (drop l.pair-index l.branch.equal))
