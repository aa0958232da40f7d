use Rattle.std.proofs.Common.{◌≡◌, ◌+◌, ◌-◌, ◌*◌, length, get_or, ◌∙◌, subst, arith, inl, inr}
use Rattle.std.proofs.lemmas.Bool.{cases_lt}
use Rattle.ds_lanes.proofs.complements.turn_many.Goals as goal

pub loop-chunk-preserved : goal.loop-chunk-preserved
loop-chunk-preserved c =
    let at = c.loop-chunk.chunk * 32 in
    λ k lt.
    elim (cases_lt k at) [
      | inl early ↦ c.store.ensures.kept k early ∙ c.loop-chunk.invariant k early
      | inr late ↦
          let back : at + (k - at) ≡ k = omega arith in
          subst (λ j. get_or c.store.new.dst j 0 ≡ 255 - get_or c.args.src.now j 0) back
          (c.store.ensures.written (k - at) (omega arith) ∙ c.complement_at.ensures.each (k - at) (omega arith))
    ]

pub returns-then-src-ne0 : goal.returns-then-src-ne0
returns-then-src-ne0 c =
    let last = length c.args.src.now - 32 in
    λ k lt.
    elim (cases_lt k last) [
      | inl early ↦ c.store-then-src-ne0.ensures.kept k early ∙ c.loop-chunk.invariant k (omega arith)
      | inr late ↦
          let back : last + (k - last) ≡ k = omega arith in
          subst (λ j. get_or c.store-then-src-ne0.new.dst j 0 ≡ 255 - get_or c.args.src.now j 0) back
          (c.store-then-src-ne0.ensures.written (k - last) (omega arith) ∙ c.complement_at-then-src-ne0.ensures.each (k - last) (omega arith))
    ]
