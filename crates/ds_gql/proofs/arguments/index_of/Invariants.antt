use Rattle.std.proofs.Common.{◌≤◌, length, drop}
use Rattle.ds_gql.specs.Arguments.{IsIndex}
use Rattle.ds_gql.proofs.arguments.index_of.Given as goal

abbrev pub invariant-loop-left : goal.invariant-loop-left
invariant-loop-left l = (l.left ≤ length l.names) × IsIndex (drop l.left l.names) l.index

abbrev pub decreases-loop-left : goal.decreases-loop-left
decreases-loop-left l = l.left
