use Rattle.std.proofs.Common.{◌≡◌, ◌++◌}
use Rattle.ds_check.specs.Walks.{steps_of}
use Rattle.ds_check.proofs.steps.steps_of.Given as goal

-- with those that are left they are all
abbrev pub invariant-rounds : goal.invariant-rounds
invariant-rounds l = l.steps.items ++ steps_of l.round-iterator.rest.items ≡ steps_of l.initial.round-iterator.rest.items
