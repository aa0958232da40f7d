use Rattle.std.proofs.Common.{◌≡◌, Ok, arith}
use Rattle.serde_json.specs.Data.{string}
use Rattle.ds_member_reading.specs.Forms.{direction_of}
use Rattle.ds_member_reading.proofs.TermLaws.{order_made}
use Rattle.ds_member_reading.proofs.terms.order.Goals as goal

pub returns : goal.returns
returns c =
    let down : direction_of (string c.args.direction.now) ≡ Ok c.in-Ok.descending = grind arith in
    order_made c.args.property.now c.args.direction.now c.in_ok-name.name c.in-Ok.descending c.in_ok-name.ensures down
