use Rattle.std.proofs.Common.{◌≤◌, ◌∷◌, length, arith, sym, subst}
use Rattle.ds_lanes.specs.Kernels.{first_zero}
use Rattle.ds_bytes.specs.Writing.{Puts}
use Rattle.ds_bytes.proofs.Escapes.{escaped-whole}
use Rattle.ds_bytes.proofs.output.put_tagged.Goals as goal

pub returns-then-first_zero-text : goal.returns-then-first_zero-text
returns-then-first_zero-text c =
    let whole : length c.args.text.now ≤ first_zero c.args.text.now = omega (arith, c.first_zero.ensures.value) in
    subst (λ bs. Puts (c.args.tag ∷ bs) c.args.output.now c.put_short.new.output) (sym (escaped-whole c.args.text.now whole)) c.put_short.ensures
