use Rattle.std.proofs.Common.{◌≡◌, ◌∷◌, arith}
use Rattle.json.specs.Token.{Token}
use Rattle.ds_line_reading.proofs.PartLaws.{list_if}
use Rattle.ds_line_reading.proofs.lists.read_list.Goals as goal

pub returns : goal.returns
returns g c =
    let begun : c.args.reader.now ≡ Token.begin_array ∷ c.next.new.self = grind arith in
    list_if c.args.depth (g.F.LineForm.reads c.args.form.now) c.args.reader.now c.next.new.self c.read_items.new.reader c.read_items.result begun (omega arith) c.read_items.ensures
