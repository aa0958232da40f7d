use Rattle.std.proofs.Common.{◌≡◌, ◌∷◌, Some, arith}
use Rattle.json.specs.Token.{Token}
use Rattle.json.specs.Json.{after_end_array}
use Rattle.json.specs.Reads.{token_of}
use Rattle.ds_json_reading.specs.Keys.{elem_of}
use Rattle.ds_line_reading.specs.Parts.{IsRead}
use Rattle.ds_line_reading.proofs.PartLaws.{if_same}
use Rattle.ds_line_reading.proofs.KeyLaws.{elem_read}
use Rattle.ds_line_reading.proofs.keys.ElemFormLineForm.read.Goals as goal

pub returns : goal.returns
returns c =
    let old = c.args.reader.now in
    let r1 = c.next.new.self in
    let r2 = c.take_text.new.reader in
    let r3 = c.next-2.new.self in
    let new = c.take_end_array.new.self in
    let kind = c.in_ok-kind.kind.now in
    let t = token_of c.in_ok-ident.ident in
    let begun : old ≡ Token.begin_array ∷ r1 = grind arith in
    let first : r1 ≡ Token.string kind ∷ r2 = grind arith in
    let second : r2 ≡ t ∷ r3 = grind arith in
    let over : after_end_array r3 ≡ Some new = grind arith in
    let h = c.in_ok-ident-2.ensures in
    if_same (λ e. IsRead c.args.depth elem_of old e new) c.elem.result (record { kind = kind; ident = c.in_ok-ident-2.ident })
    (elem_read c.args.depth old r1 r2 r3 new kind t h.0 c.in_ok-ident-2.ident (omega arith) begun first second h.1 over h.2) c.elem.ensures
