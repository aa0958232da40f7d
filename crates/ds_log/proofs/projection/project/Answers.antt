use Rattle.std.proofs.Common.{◌∙◌, ◌+◌, ap, sym, ◌++◌, ◌<◌, length, get_or, arith}
use Rattle.ds_log.specs.Logs.{shard_entries}
use Rattle.ds_log.specs.ShardLaws.{shard_list-more}
use Rattle.ds_log.proofs.projection.project.Goals as goal

pub loop-i-preserved : goal.loop-i-preserved
loop-i-preserved c =
    let read = c.as_slice-commit-items.ensures in
    let below : c.loop-i.i < length c.args.journal.now = omega (arith, ap length read) in
    c.in_ok-push_entries.ensures
    ∙ ap (λ es. es ++ shard_entries (c.loop-i.i + 1) c.commit-item.result c.args.shard c.args.shards) c.loop-i.invariant
    ∙ sym (shard_list-more c.args.journal.now c.loop-i.i c.commit-item.result c.args.shard c.args.shards below
    (c.commit-item.is ∙ ap (λ js. get_or js c.loop-i.i c.commit-item.result) read))
