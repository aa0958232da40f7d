use Rattle.std.proofs.Common.{arith}
use Rattle.ds_line_reading.proofs.PartLaws.{scalar_read}
use Rattle.ds_member_reading.specs.Forms.{count_of}
use Rattle.ds_member_reading.proofs.MemberLaws.{from_read}
use Rattle.ds_member_reading.proofs.members.CountMemberMember.read.Goals as goal

pub returns : goal.returns
returns c =
    let one = c.in_ok-count.ensures in
    scalar_read c.args._depth count_of c.args.reader.now one.0 c.in_ok-count.count c.read_natural.new.reader one.1 (from_read 1 one.0 c.in_ok-count.count one.2 (omega arith))
