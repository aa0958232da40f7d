use Rattle.std.proofs.Common.{ap, ◌∙◌, arith}
use Rattle.ds_paxos.specs.Holdings.{holdings, holdings_from}
use Rattle.ds_paxos.proofs.Listed.{listed, listed_all, listed_more}
use Rattle.ds_paxos.proofs.world.World.holdings.Goals as goal

pub loop-member-init : goal.loop-member-init
loop-member-init c = rw c.new-list.ensures.items

pub loop-member-preserved : goal.loop-member-preserved
loop-member-preserved c =
    listed_more (listed c.loop-member.list.items) (listed c.put_holdings.new.list.items) (holdings_from 0 c.members-kept-items.result.now)
    c.loop-member.member c.members-kept-items.result.now c.kept-item.result (omega arith) c.kept-item.is c.in_ok-put_holdings.ensures c.loop-member.invariant

pub returns : goal.returns
returns c =
    listed_all (listed c.loop-member.list.items) (holdings_from 0 c.members-kept-items.result.now) c.members-kept-items.result.now c.loop-member.member
    (omega arith) c.loop-member.invariant
    ∙ ap (holdings_from 0) c.members-kept-items.ensures ∙ ap holdings c.self.view_is
