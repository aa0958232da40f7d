use Rattle.std.proofs.Common.{◌≡◌, [], ◌∷◌, ◌++◌, Some, None, Ok, sym, ap, subst, ◌∙◌, arith, append-nil}
use Rattle.json.specs.Json.{after_end_array}
use Rattle.ds_line_reading.specs.Parts.{IsRead}
use Rattle.ds_line_reading.proofs.PartLaws.{list_turn, list_over, list_shorter}
use Rattle.ds_line_reading.proofs.lists.read_items.Goals as goal

pub items-preserved : goal.items-preserved
items-preserved g c =
    let form = g.F.LineForm.reads c.args.form.now in
    let old = c.items.reader in
    let new = c.read.new.reader in
    let x = c.in_ok-item.item in
    let going : (after_end_array old ≡ None) × (c.take_end_array.new.self ≡ old) = grind arith in
    let one = subst (λ ts. IsRead c.args.depth form ts x new) going.1 c.in_ok-item.ensures in
    let longer : c.push.new.self.items ≡ c.items.found.items ++ x ∷ [] = grind arith in
    list_turn c.args.depth form c.args.reader.now old c.items.found.items c.items.invariant new x c.push.new.self.items going.0 one longer

pub returns : goal.returns
returns g c =
    let form = g.F.LineForm.reads c.args.form.now in
    let old = c.items.reader in
    let new = c.take_end_array.new.self in
    let over : after_end_array old ≡ Some new = grind arith in
    let all = list_over c.args.depth form c.args.reader.now old c.items.found.items c.items.invariant new over in (
      all.0,
      all.1,
      all.2 ∙ ap Ok (append-nil c.items.found.items ∙ sym c.from.ensures),
      list_shorter c.args.depth form c.args.reader.now old c.items.found.items c.items.invariant new over,
    )
