use Rattle.std.proofs.Common.{refl, sym, arith}
use Rattle.std.proofs.lemmas.List.{length-take-le}
use Rattle.ds_json_printing.proofs.Symbols.{encoded-parts}
use Rattle.ds_json_printing.proofs.text.write_symbols.Goals as goal

pub slice_bounds-write_piece-end : goal.slice_bounds-write_piece-end
slice_bounds-write_piece-end g c = sym (length-take-le 192 c.loop-rest.rest.now (omega arith))

pub write_piece-requires : goal.write_piece-requires
write_piece-requires g c = omega (arith, length-take-le 192 c.loop-rest.rest.now (omega arith))

pub loop-rest-preserved : goal.loop-rest-preserved
loop-rest-preserved g c =
    let j = g.met.O.Output.joined in
    let split = encoded-parts c.loop-rest.rest.now 192 refl (omega arith) in
    λ u h. c.loop-rest.invariant u (rw split at (j _ _ _ _ _ c.write_piece.ensures h))
