use Rattle.ds_member_reading.proofs.MemberLaws.{flag_if}
use Rattle.ds_member_reading.proofs.query_members.CursorMemberMember.read.Goals as goal

pub returns : goal.returns
returns c = flag_if c.args._depth c.args.reader.now c.read_flag.new.reader c.read_flag.result c.read_flag.ensures
