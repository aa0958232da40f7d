use Rattle.ds_member_reading.proofs.query_members.LimitMemberMember.read.Goals as goal

pub returns : goal.returns
returns c = c.read_results.ensures c.args._depth
