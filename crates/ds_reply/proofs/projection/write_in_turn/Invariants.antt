-- What is written from here on for the members that are left makes the whole text.
use Rattle.std.proofs.Common.{drop, false}
use Rattle.serde_json.specs.Written.{members_text}
use Rattle.ds_json_printing.specs.Objects.{by_name}
use Rattle.ds_reply.specs.Results.{projected}
use Rattle.ds_reply.proofs.Projecting.{in_turn}
use Rattle.ds_reply.proofs.projection.write_in_turn.Given as goal

abbrev pub invariant-loop-i : goal.invariant-loop-i
invariant-loop-i g l = (u : _) → g.O.Output.Writes (members_text l.later (in_turn (drop l.i (projected l.names l.values)))) l.out u → g.O.Output.Writes (members_text false (by_name (projected l.names l.values))) l.initial.out u
