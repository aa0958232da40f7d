use Rattle.std.proofs.Common.{◌≡◌, ◌∷◌, arith}
use Rattle.json.specs.Token as token
use Rattle.ds_line_reading.proofs.PartLaws.{natural_begins}
use Rattle.ds_line_reading.proofs.scalars.read_natural.Goals as goal

pub returns-in-Some-Number : goal.returns-in-Some-Number
returns-in-Some-Number c =
    let first : c.args.reader.now ≡ token.number c.in-Some-Number.text.now ∷ c.next.new.self = grind arith in
    natural_begins c.args.reader.now c.next.new.self c.in-Some-Number.text.now c.natural.result first c.natural.ensures
