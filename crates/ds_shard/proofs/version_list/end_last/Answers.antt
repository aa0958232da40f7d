use Rattle.std.proofs.Common.{arith}
use Rattle.ds_shard.proofs.LastVersions.{ends_last}
use Rattle.ds_shard.proofs.version_list.end_last.Goals as goal

pub returns-in-Some : goal.returns-in-Some
returns-in-Some c =
    let items = c.args.items.now in
    ends_last c.args.stamp items.len items.items c.in-Some.last.now c.end.new.self items.ok.0 c.requires
    (omega (arith, c.in-Some.ensures.item.3.0, items.ok.0)) c.in-Some.ensures.value c.end.ensures
