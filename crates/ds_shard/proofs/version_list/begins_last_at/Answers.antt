use Rattle.std.proofs.Common.{arith}
use Rattle.ds_shard.proofs.LastVersions.{begins_last_is}
use Rattle.ds_shard.proofs.version_list.begins_last_at.Goals as goal

pub returns-in-Some : goal.returns-in-Some
returns-in-Some c =
    let items = c.args.items.now in
    begins_last_is c.args.stamp items.len items.items c.in-Some.last.now items.ok.0 (omega (arith, c.in-Some.ensures.item.3.0, items.ok.0))
    c.in-Some.ensures.lookup
