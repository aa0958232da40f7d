use Rattle.std.proofs.Common.{arith}
use Rattle.ds_line_reading.proofs.PartLaws.{scalar_read}
use Rattle.ds_member_reading.specs.Forms.{shard_of}
use Rattle.ds_member_reading.proofs.MemberLaws.{from_read}
use Rattle.ds_member_reading.proofs.members.ShardMemberMember.read.Goals as goal

pub returns : goal.returns
returns c =
    let one = c.in_ok-shard.ensures in
    scalar_read c.args._depth shard_of c.args.reader.now one.0 c.in_ok-shard.shard c.read_natural.new.reader one.1 (from_read 0 one.0 c.in_ok-shard.shard one.2 (omega arith))
