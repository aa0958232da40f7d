-- What is written from here on for the members that are left makes the whole text.
use Rattle.std.proofs.Common.{false}
use Rattle.serde_json.specs.Data.{no_members}
use Rattle.serde_json.specs.Written.{members_text}
use Rattle.ds_reply.specs.Projections.{projected_members}
use Rattle.ds_reply.specs.Projections.{past, members_count}
use Rattle.ds_reply.proofs.projection.write_by_search.Given as goal

abbrev pub invariant-loop-place : goal.invariant-loop-place
invariant-loop-place g l = (u : _) → g.O.Output.Writes (members_text l.later (past l.later l.last (projected_members l.names l.values no_members))) l.out u → g.O.Output.Writes (members_text false (projected_members l.names l.values no_members)) l.initial.out u

abbrev pub decreases-loop-place : goal.decreases-loop-place
decreases-loop-place g l = members_count (past l.later l.last (projected_members l.names l.values no_members))
