use Rattle.std.proofs.Common.{◌≡◌, ◌∷◌, Some, arith}
use Rattle.json.specs.Token.{Token}
use Rattle.json.specs.Json.{after_end_array}
use Rattle.ds_member_reading.proofs.TermLaws.{order_if}
use Rattle.ds_member_reading.proofs.terms.LineOrderFormLineForm.read.Goals as goal

pub returns : goal.returns
returns c =
    let old = c.args.reader.now in
    let r1 = c.next.new.self in
    let r2 = c.take_text.new.reader in
    let r3 = c.take_text-2.new.reader in
    let new = c.take_end_array.new.self in
    let p = c.in_ok-property.property.now in
    let q = c.in_ok-direction.direction.now in
    let begun : old ≡ Token.begin_array ∷ r1 = grind arith in
    let first : r1 ≡ Token.string p ∷ r2 = grind arith in
    let second : r2 ≡ Token.string q ∷ r3 = grind arith in
    let over : after_end_array r3 ≡ Some new = grind arith in
    order_if c.args.depth old r1 r2 r3 new p q c.order.result (omega arith) begun first second over c.order.ensures
