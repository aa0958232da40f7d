use Rattle.ds_member_reading.proofs.query_members.KindMemberMember.read.Goals as goal

pub returns : goal.returns
returns c = c.read_name.ensures c.args._depth
