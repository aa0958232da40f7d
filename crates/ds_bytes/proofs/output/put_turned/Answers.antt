use Rattle.std.proofs.Common.{◌++◌, ◌≡◌, take, drop, subst, ◌∙◌}
use Rattle.std.proofs.lemmas.List.{take-append-drop}
use Rattle.ds_bytes.specs.Writing.{Puts}
use Rattle.ds_bytes.proofs.Putting.{puts_joined}
use Rattle.ds_bytes.proofs.output.put_turned.Goals as goal

pub loop-rest-preserved : goal.loop-rest-preserved
loop-rest-preserved c =
    let front : c.split_at.result.0.now ≡ take 64 c.loop-rest.rest.now = c.split_at.ensures.front in
    let back : c.split_at.result.1.now ≡ drop 64 c.loop-rest.rest.now = c.split_at.ensures.back in
    let whole : c.split_at.result.0.now ++ c.split_at.result.1.now ≡ c.loop-rest.rest.now = (λ i. front i ++ back i) ∙ take-append-drop 64 c.loop-rest.rest.now in
    record {
      turned = c.put_block.ensures.same.0 ∙ c.loop-rest.invariant.turned;
      whole = λ u h. c.loop-rest.invariant.whole u (subst (λ bs. Puts bs c.loop-rest.output u) whole (puts_joined _ _ _ _ _ c.put_block.ensures h));
    }

pub returns : goal.returns
returns c = c.loop-rest.invariant.whole _ c.put_block-2.ensures
