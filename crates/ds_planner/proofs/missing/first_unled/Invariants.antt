use Rattle.std.proofs.Common.{◌≡◌, drop, not}
use Rattle.std.specs.List.{list_any, find}
use Rattle.ds_planner.specs.Indexes.{leads}
use Rattle.ds_planner.proofs.missing.first_unled.Given as goal

abbrev pub invariant-loop-pair : goal.invariant-loop-pair
invariant-loop-pair l =
    find (λ p. not (list_any (λ i. leads l.branch l.defs i p.property) l.found)) l.branch.equal
    ≡ find (λ p. not (list_any (λ i. leads l.branch l.defs i p.property) l.found)) (drop l.pair-index l.branch.equal)
