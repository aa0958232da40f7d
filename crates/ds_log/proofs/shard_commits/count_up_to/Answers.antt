use Rattle.std.proofs.Common.{rules}
use Rattle.std.specs.Prelude.{nat_le}
use Rattle.std.proofs.lemmas.List.Sorted.{IsPartitionPoint-from_clause, IsPartitionedBy-leb}
use Rattle.ds_log.proofs.Numbers.{counted}
use Rattle.ds_log.proofs.shard_commits.count_up_to.Goals as goal

pub returns : goal.returns
returns c =
    let xs = c.args.commits.now in
    let r = c.partition_point.result in
    let point = IsPartitionPoint-from_clause (λ x. nat_le x c.args.place) xs r c.partition_point.ensures.partitioned
    (IsPartitionedBy-leb (λ x. x) xs c.args.place c.requires) (λ a b f called. search rules) in
    counted (λ x. nat_le x c.args.place) xs r c.partition_point.ensures.bound point.0 point.1
