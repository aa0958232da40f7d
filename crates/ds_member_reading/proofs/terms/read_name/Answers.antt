use Rattle.std.proofs.Common.{◌≡◌, ◌∷◌, arith}
use Rattle.json.specs.Token.{Token}
use Rattle.ds_member_reading.specs.Forms.{name_of}
use Rattle.ds_member_reading.proofs.TermLaws.{text_if}
use Rattle.ds_member_reading.proofs.terms.read_name.Goals as goal

pub returns : goal.returns
returns c = λ depth.
    let name = c.in_ok-name.name.now in
    let first : c.args.reader.now ≡ Token.string name ∷ c.take_text.new.reader = grind arith in
    text_if depth name_of c.args.reader.now c.take_text.new.reader name c.copied_name.result first c.copied_name.ensures
