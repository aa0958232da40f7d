use Rattle.std.proofs.Common.{◌≡◌, [], replicate}
use Rattle.ds_paxos.proofs.cluster.blank_members.Given as goal

abbrev pub invariant-loop : goal.invariant-loop
invariant-loop l = l.list.items ≡ replicate l.counter []
