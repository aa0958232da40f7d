use Rattle.std.proofs.Common.{◌≡◌, ◌++◌, take}
use Rattle.ds_reply.proofs.member.add_members.Given as goal

abbrev pub invariant-loop-member : goal.invariant-loop-member
invariant-loop-member l = l.members.items ≡ l.initial.members.items ++ take l.member-index l.more
