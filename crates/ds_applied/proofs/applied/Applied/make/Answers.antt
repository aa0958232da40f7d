use Rattle.std.proofs.Common.{[], arith, replicate, subst, sym}
use Rattle.ds_applied.specs.AppliedLists.{AreCounts, applied_of}
use Rattle.ds_applied.proofs.Within.{none_within}
use Rattle.ds_applied.proofs.applied.Applied.make.Goals as goal

pub invariant_of-result : goal.invariant_of-result
invariant_of-result c =
    let made = c.loop.invariant in (
      omega (arith, made.0, c.requires.least, c.loop-test.false),
      omega (arith, made.0, c.requires.most, c.loop.auto.counter-end),
      subst (λ ls. AreCounts ls (applied_of c.loop.list.items)) (sym made.1)
          (subst (AreCounts (replicate c.loop.counter [])) (sym made.2) (none_within c.loop.counter)),
    )
