use Rattle.std.proofs.Common.{◌∙◌, ◌++◌, ap, map, sym}
use Rattle.std.specs.List.{range_with_len}
use Rattle.ds_log.specs.Logs.{shard_list}
use Rattle.ds_history.specs.Versions.{entries_versions, versions_of}
use Rattle.ds_history.proofs.VersionLaws.{shards_more}
use Rattle.ds_history.proofs.versions.versions_of.Goals as goal

pub loop-shard-preserved : goal.loop-shard-preserved
loop-shard-preserved c = λ k.
    let shard = c.loop-shard.shard in
    c.in_ok-note_entries.ensures k
    ∙ ap (λ vs. vs ++ entries_versions shard k c.as_slice.result.now) (c.loop-shard.invariant k)
    ∙ ap (λ es. versions_of k (map (λ s. shard_list c.args.journal.now s c.args.shards) (range_with_len 0 shard))
    ++ entries_versions shard k es)
    (c.as_slice.ensures ∙ c.in_ok-entries.ensures)
    ∙ sym (shards_more (λ s es. entries_versions s k es) (λ s. shard_list c.args.journal.now s c.args.shards) shard)
