-- What is written from here on for the places that are left makes the whole text.
use Rattle.std.proofs.Common.{drop, false}
use Rattle.serde_json.specs.Written.{members_text}
use Rattle.ds_json_printing.specs.Objects.{by_name}
use Rattle.ds_reply.specs.Results.{projected}
use Rattle.ds_reply.specs.Orders.{members_at}
use Rattle.ds_reply.proofs.projection.write_at_places.Given as goal

abbrev pub invariant-loop-place : goal.invariant-loop-place
invariant-loop-place g l = (u : _) → g.O.Output.Writes (members_text l.later (members_at (projected l.names l.values) (drop l.place-index l.places))) l.out u → g.O.Output.Writes (members_text false (by_name (projected l.names l.values))) l.initial.out u
