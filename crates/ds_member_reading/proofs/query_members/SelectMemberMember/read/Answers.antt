use Rattle.std.proofs.Common.{◌≡◌, ◌∷◌, arith}
use Rattle.json.specs.Token.{Token}
use Rattle.ds_member_reading.specs.Forms.{select_of}
use Rattle.ds_member_reading.proofs.TermLaws.{text_if}
use Rattle.ds_member_reading.proofs.query_members.SelectMemberMember.read.Goals as goal

pub returns : goal.returns
returns c =
    let name = c.in_ok-name.name.now in
    let first : c.args.reader.now ≡ Token.string name ∷ c.take_text.new.reader = grind arith in
    text_if c.args._depth select_of c.args.reader.now c.take_text.new.reader name c.selection_of.result first c.selection_of.ensures
