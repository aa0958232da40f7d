use Rattle.std.proofs.Common.{◌≡◌, ◌<◌, ◌+◌, ◌∙◌, ap, arith, subst, sym}
use Rattle.std.proofs.lemmas.List.{length-set}
use Rattle.std.specs.Prelude.{OnOk, OnErr}
use Rattle.ds_applied.specs.AppliedLists.{AppliedParts, AppliedShard}
use Rattle.ds_applied.proofs.CountSteps.{one_applied, none_applied}
use Rattle.ds_applied.proofs.Within.{set_within}
use Rattle.ds_applied.proofs.applied.Applied.apply_one.Goals as goal

pub returns-clause-ok : goal.returns-clause-ok
returns-clause-ok c =
    one_applied c.self.inside.shards.items c.self.inside.commits c.args.shard c.index_mut.result.now c.apply_one.new.self
    c.apply_one.result c.args.self.now
    (subst (λ (p : AppliedParts). c.args.shard < p.shards) (sym c.self.view_is) c.requires.shard)
    (c.apply_one.ensures.entries ∙ ap (λ (s : AppliedShard). s.entries) c.index_mut.ensures.value) c.self.view_is
    (subst (λ (s : AppliedShard). OnOk c.apply_one.result
    (c.apply_one.new.self.applied ≡ s.applied + 1)) c.index_mut.ensures.value c.apply_one.ensures.ok)

pub returns-clause-err : goal.returns-clause-err
returns-clause-err c =
    none_applied c.self.inside.shards.items c.self.inside.commits c.args.shard c.index_mut.result.now c.apply_one.new.self
    c.apply_one.result c.args.self.now
    (subst (λ (p : AppliedParts). c.args.shard < p.shards) (sym c.self.view_is) c.requires.shard)
    (c.apply_one.ensures.entries ∙ ap (λ (s : AppliedShard). s.entries) c.index_mut.ensures.value) c.self.view_is
    (subst (λ (s : AppliedShard). OnErr c.apply_one.result
    (c.apply_one.new.self.applied ≡ s.applied)) c.index_mut.ensures.value c.apply_one.ensures.err)

pub invariant_of-self : goal.invariant_of-self
invariant_of-self c =
    let as_many = length-set c.self.inside.shards.items c.args.shard c.apply_one.new.self in (
      omega (arith, c.self.invariant.0, as_many),
      omega (arith, c.self.invariant.1, as_many),
      set_within c.self.inside.shards.items c.args.shard c.apply_one.new.self c.apply_one.ensures.within c.self.invariant.2,
    )
