use Rattle.std.proofs.Common.{◌∙◌, arith, rules}
use Rattle.std.specs.Prelude.{nat_le}
use Rattle.std.proofs.lemmas.List.Sorted.{IsPartitionPoint-from_clause}
use Rattle.ds_shard.specs.declared.version_list.Kept.{Kept}
use Rattle.ds_shard.proofs.SeenVersions.{are_parted, nothing_seen, seen_is}
use Rattle.ds_shard.proofs.version_list.VersionList.seen_at.Goals as goal

pub returns-then-begun-eq0 : goal.returns-then-begun-eq0
returns-then-begun-eq0 c =
    let items = c.self.inside.items in
    nothing_seen c.args.at c.partition_point-begun.result items.items c.args.self.now
    (IsPartitionPoint-from_clause (λ (k : Kept). nat_le k.from c.args.at) items.items c.partition_point-begun.result
    c.partition_point-begun.ensures.partitioned (are_parted c.args.at items.items c.self.invariant) (λ a r f called. search rules))
    c.self.view_is c.if-begun-eq0.true

pub returns : goal.returns
returns c =
    let items = c.self.inside.items in
    c.before_end.ensures
    ∙ seen_is c.args.at c.partition_point-begun.result items.items c.args.self.now
    (IsPartitionPoint-from_clause (λ (k : Kept). nat_le k.from c.args.at) items.items c.partition_point-begun.result
    c.partition_point-begun.ensures.partitioned (are_parted c.args.at items.items c.self.invariant) (λ a r f called. search rules))
    c.self.view_is c.index.result.now (omega arith) (omega (arith, items.ok.0, c.partition_point-begun.ensures.bound)) c.index.ensures
    c.self.invariant
