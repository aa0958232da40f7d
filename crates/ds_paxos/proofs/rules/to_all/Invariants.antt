use Rattle.std.proofs.Common.{◌≡◌, map}
use Rattle.std.specs.List.{range_with_len}
use Rattle.ds_paxos.proofs.rules.to_all.Given as goal
use Rattle.ds_paxos.proofs.Sent.{sent_to}

abbrev pub invariant-loop-to : goal.invariant-loop-to
invariant-loop-to l = l.sends.items ≡ map (sent_to l.site.place l.site.ballot l.content) (range_with_len 0 l.to)
