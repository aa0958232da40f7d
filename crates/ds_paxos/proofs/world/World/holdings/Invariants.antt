use Rattle.std.proofs.Common.{◌≡◌, ◌++◌, drop}
use Rattle.ds_paxos.specs.Holdings.{holdings_from}
use Rattle.ds_paxos.proofs.Listed.{listed}
use Rattle.ds_paxos.proofs.world.World.holdings.Given as goal

-- what the members so far hold, and what the others do
abbrev pub invariant-loop-member : goal.invariant-loop-member
invariant-loop-member l = listed l.list.items ++ holdings_from l.member (drop l.member l.kept-items) ≡ holdings_from 0 l.kept-items
