use Rattle.ds_member_reading.proofs.TermLaws.{any_text_if}
use Rattle.ds_member_reading.proofs.query_members.StartMemberMember.read.Goals as goal

pub returns : goal.returns
returns c = any_text_if c.args._depth c.args.reader.now c.read_text.new.reader c.read_text.result c.read_text.ensures
