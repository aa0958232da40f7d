use Rattle.std.proofs.Common.{◌≡◌, ◌∷◌, length, true, ap, arith}
use Rattle.json.specs.Token.{Token}
use Rattle.serde_json.specs.Data.{object}
use Rattle.ds_line_reading.specs.Parts.{IsRead}
use Rattle.ds_line_reading.proofs.PartLaws.{object_given, if_same}
use Rattle.ds_request.specs.Entities.{properties_of}
use Rattle.ds_request.proofs.PropertiesLaws.{properties_read}
use Rattle.ds_request.proofs.common.entities.read_properties.Goals as goal

pub returns : goal.returns
returns c =
    let old = c.args.reader.now in
    let new = c.add_properties.new.reader in
    let found = c.add_properties.new.found.items in
    let filled : c.add_properties.result ≡ true = grind arith in
    let all = c.add_properties.ensures filled in
    let begun : old ≡ Token.begin_object ∷ c.next.new.self = grind arith in
    if_same (λ ps. IsRead c.args.depth properties_of old ps new) c.few.result found (
      object all.0,
      object_given c.args.depth old c.next.new.self new all.0 begun (omega arith) all.1,
      properties_read all.0 found all.3,
      omega (arith, ap length begun, all.2),
    )
    c.few.ensures
