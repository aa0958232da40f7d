use Rattle.std.proofs.Common.{◌<◌, ◌∙◌, ◌++◌, ap, sym, length, take, rules}
use Rattle.ds_applied.specs.ByKey.{joined}
use Rattle.ds_applied.proofs.ViewSteps.{joined_more}
use Rattle.ds_applied.proofs.visible.AllVisible.unsorted.Goals as goal

pub loop-shard-preserved : goal.loop-shard-preserved
loop-shard-preserved c =
    let below : c.loop-shard.shard-index < length c.as_slice-shard-items.result.now = search rules in
    c.in_ok-put_all.ensures ∙ ap (λ es. es ++ c.map.result.now) c.loop-shard.invariant
    ∙ ap (λ v. joined (take c.loop-shard.shard-index c.as_slice-shard-items.result.now) ++ v) c.map.ensures
    ∙ sym (joined_more c.as_slice-shard-items.result.now c.loop-shard.shard-index c.shard-item.result below c.shard-item.is)
