use Rattle.std.proofs.Common.{◌≡◌, ◌++◌}
use Rattle.ds_paxos.specs.Holdings.{member_holdings}
use Rattle.ds_paxos.proofs.Listed.{listed}
use Rattle.ds_paxos.proofs.member.Member.put_holdings.Given as goal

-- what is listed so far, and what is left to be walked over
abbrev pub invariant-loop-place : goal.invariant-loop-place
invariant-loop-place l = listed l.list.items ++ member_holdings l.member l.place-iterator
    ≡ listed l.initial.list.items ++ member_holdings l.member l.self
