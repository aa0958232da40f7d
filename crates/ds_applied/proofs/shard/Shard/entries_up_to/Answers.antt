use Rattle.std.proofs.Common.{◌∙◌, ap, rules}
use Rattle.std.specs.Prelude.{nat_le}
use Rattle.std.proofs.lemmas.List.Sorted.{IsPartitionPoint-from_clause}
use Rattle.ds_log.specs.declared.Entry.{Entry}
use Rattle.ds_applied.specs.AppliedLists.{AppliedShard}
use Rattle.ds_applied.proofs.UpTo.{counted_up_to}
use Rattle.ds_applied.proofs.shard.Shard.entries_up_to.Goals as goal

pub returns-clause-value : goal.returns-clause-value
returns-clause-value c = λ journal m shard shards is within.
    counted_up_to journal m shard shards c.args.place within c.as_slice.result.now c.partition_point.result
    (c.as_slice.ensures.value ∙ ap (λ (p : AppliedShard). p.entries) c.self.view_is ∙ is)
    c.partition_point.ensures.bound
    (λ parted. IsPartitionPoint-from_clause (λ (e : Entry). nat_le e.commit c.args.place) c.as_slice.result.now c.partition_point.result
    c.partition_point.ensures.partitioned parted (λ a r f called. search rules))
