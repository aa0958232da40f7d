-- What is written from here on for what is left makes the whole text.
use Rattle.std.proofs.Common.{drop, false}
use Rattle.serde_json.specs.Written.{members_text}
use Rattle.ds_reply.specs.EntityPrinting.{property_members}
use Rattle.ds_reply.proofs.entities.write_properties.Given as goal

abbrev pub invariant-loop-property : goal.invariant-loop-property
invariant-loop-property g l = (u : _) → g.O.Output.Writes (members_text l.later (property_members (drop l.property-index l.properties))) l.out u → g.O.Output.Writes (members_text false (property_members l.properties)) l.initial.out u
