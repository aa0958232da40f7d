use Rattle.std.proofs.Common.{◌<◌, ◌∙◌, ap, get_or, length, subst, sym}
use Rattle.ds_applied.specs.AppliedLists.{AppliedShard, writes_at}
use Rattle.ds_applied.proofs.ShardSteps.{shard_written}
use Rattle.ds_applied.proofs.shard.Shard.apply_write.Goals as goal

pub invariant_of-self-2 : goal.invariant_of-self-2
invariant_of-self-2 c =
    shard_written c.self.inside.entries.items c.self.inside.applied c.self.inside.begun c.self.inside.entities c.apply.new.self
    c.index-writes-self.result c.self.invariant
    (subst (λ (p : AppliedShard). p.begun < length (writes_at p.entries p.applied)) (sym c.self.view_is) c.requires.left)
    (c.index-writes-self.is ∙ ap (λ ws. get_or ws c.self.inside.begun c.index-writes-self.result)
    (c.writes_at-writes.ensures ∙ ap (λ es. writes_at es c.self.inside.applied) c.as_slice.ensures.value))
    c.in_ok-apply.ensures.ok
