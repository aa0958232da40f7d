use Rattle.std.proofs.Common.{◌≡◌, ◌∷◌, length, ap, arith}
use Rattle.json.specs.Token.{Token}
use Rattle.ds_line_reading.proofs.PartLaws.{object_given}
use Rattle.ds_line_reading.proofs.objects.fill_object.Goals as goal

pub returns : goal.returns
returns g c = λ filled.
    let begun : c.args.reader.now ≡ Token.begin_object ∷ c.next.new.self = grind arith in
    let all = c.fill_members.ensures filled in (
      all.0,
      object_given c.args.depth c.args.reader.now c.next.new.self c.fill_members.new.reader all.0 begun (omega arith) all.1,
      omega (arith, ap length begun, all.2),
      all.3,
    )
