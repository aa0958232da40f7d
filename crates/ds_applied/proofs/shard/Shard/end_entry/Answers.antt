use Rattle.std.proofs.Common.{◌<◌, length, sym, subst, ◌≡◌}
use Rattle.ds_applied.specs.AppliedLists.{AppliedShard, writes_at}
use Rattle.ds_applied.proofs.ShardSteps.{shard_ended}
use Rattle.ds_applied.proofs.shard.Shard.end_entry.Goals as goal

pub invariant_of-self : goal.invariant_of-self
invariant_of-self c =
    shard_ended _ _ _ _ c.self.invariant
    (subst (λ (p : AppliedShard). p.applied < length p.entries) (sym c.self.view_is) c.requires.next)
    (subst (λ (p : AppliedShard). p.begun ≡ length (writes_at p.entries p.applied)) (sym c.self.view_is) c.requires.all)
