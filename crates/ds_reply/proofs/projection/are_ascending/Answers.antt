use Rattle.std.proofs.Common.{◌≡◌, ◌-◌, List, ℕ, [], get_or, arith, sym, ◌∙◌}
use Rattle.std.proofs.lemmas.List.{get_or_default}
use Rattle.ds_reply.proofs.Selection.{less-before}
use Rattle.ds_reply.proofs.Projecting.{ascend-more}
use Rattle.ds_reply.proofs.projection.are_ascending.Goals as goal

pub loop-k-preserved : goal.loop-k-preserved
loop-k-preserved c =
    let ns : List (List ℕ) = c.args.names.now in
    let k : ℕ = c.loop-k.k in
    let first : c.bytes.result.now ≡ get_or ns (k - 1) [] = c.bytes.ensures.value ∙ c.index-names-k.is ∙ get_or_default ns (k - 1) c.index-names-k.result [] (omega arith) in
    let second : c.bytes-in-loop-k.result.now ≡ get_or ns k [] = c.bytes-in-loop-k.ensures.value ∙ c.index-names-k-in-loop-k.is ∙ get_or_default ns k c.index-names-k-in-loop-k.result [] c.loop-k-test.true in
    let before = less-before c.bytes.result.now c.bytes-in-loop-k.result.now (sym c.comes_before.ensures ∙ c.if-not-comes_before.false) in
    ascend-more ns k c.bytes.result.now c.bytes-in-loop-k.result.now c.loop-k.invariant first second before

pub returns : goal.returns
returns c = λ e k lt pos. c.loop-k.invariant k (omega arith) pos
