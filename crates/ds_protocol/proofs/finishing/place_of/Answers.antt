use Rattle.std.proofs.Common.{rules}
use Rattle.std.proofs.lemmas.List.Sorted.{IsPartitionPoint-from_clause}
use Rattle.ds_protocol.proofs.Halving.{is_before, parted, place_is}
use Rattle.ds_protocol.proofs.finishing.place_of.Goals as goal

pub returns : goal.returns
returns c =
    let es = c.args.entities.now in
    let k = c.args.key.now in
    place_is es k c.partition_point.result c.partition_point.ensures.bound (IsPartitionPoint-from_clause (is_before es k) es
    c.partition_point.result c.partition_point.ensures.partitioned (parted es k c.requires) (λ a r f called. search rules))
