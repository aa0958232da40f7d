use Rattle.std.proofs.Common.{◌≡◌, ◌∷◌, Ok, refl, arith}
use Rattle.json.specs.Token.{Token}
use Rattle.serde_json.specs.Data.{string}
use Rattle.ds_line_reading.proofs.PartLaws.{scalar_read}
use Rattle.ds_request.specs.Requests.{operation_of}
use Rattle.ds_request.proofs.common.members.OpMemberMember.read.Goals as goal

pub returns-in-Ok : goal.returns-in-Ok
returns-in-Ok c =
    let name = c.in_ok-name.name.now in
    let first : c.args.reader.now ≡ Token.string name ∷ c.take_text.new.reader = grind arith in
    let is : operation_of (string name) ≡ Ok c.in-Ok.operation = grind arith in
    scalar_read c.args._depth operation_of c.args.reader.now (string name) c.in-Ok.operation c.take_text.new.reader (Token.string name, first, refl) is
