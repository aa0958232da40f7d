use Rattle.std.proofs.Common.{Some, sym, ap, ◌∙◌}
use Rattle.ds_base.specs.Limits.{greatest_client}
use Rattle.ds_line_reading.proofs.PartLaws.{scalar_read}
use Rattle.ds_member_reading.specs.Forms.{client_of}
use Rattle.ds_member_reading.proofs.MemberLaws.{up_to_read}
use Rattle.ds_member_reading.proofs.members.ClientMemberMember.read.Goals as goal

pub returns-in-Some : goal.returns-in-Some
returns-in-Some c =
    let one = c.in_ok-number.ensures in
    let so = c.in-Some.ensures in
    scalar_read c.args._depth client_of c.args.reader.now one.0 c.in-Some.client c.read_natural.new.reader one.1 (up_to_read greatest_client one.0 c.in-Some.client (one.2 ∙ ap Some (sym so.0)) so.1)
