-- What is written from here on for the places that are left makes the whole text.
use Rattle.std.proofs.Common.{drop, false, map}
use Rattle.serde_json.specs.Written.{members_text}
use Rattle.ds_reply.specs.Orders.{members_at}
use Rattle.ds_reply.specs.Shown.{member_named}
use Rattle.ds_reply.proofs.object.write_members.Given as goal

abbrev pub invariant-loop-place : goal.invariant-loop-place
invariant-loop-place g l = (u : _) → g.O.Output.Writes (members_text l.later (members_at (map member_named l.members) (drop l.place-index l.places))) l.out u → g.O.Output.Writes (members_text false (members_at (map member_named l.members) l.places)) l.initial.out u
