use Rattle.std.proofs.Common.{◌≡◌, ◌-◌, ◌∙◌, ap, sym, arith, drop, length, length-drop}
use Rattle.std.proofs.lemmas.List.{length-take-le}
use Rattle.ds_rounds.proofs.SpanLaws.{part_of_part}
use Rattle.ds_rounds.proofs.piece.Piece.skip.Goals as goal

pub returns : goal.returns
returns c =
    let bytes = c.self.inside.bytes.items in
    let from = c.self.inside.from in
    let to = c.self.inside.to in
    let whole : length c.args.self.now ≡ to - from = ap length (sym c.self.view_is) ∙ length-take-le (to - from) (drop from bytes) (omega (arith, length-drop from bytes, c.self.invariant.1, c.self.invariant.2)) in
    part_of_part bytes from to c.args.n (omega (arith, whole, c.requires, c.self.invariant.0)) ∙ ap (drop c.args.n) c.self.view_is
