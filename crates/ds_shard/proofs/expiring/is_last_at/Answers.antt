use Rattle.std.proofs.Common.{arith}
use Rattle.ds_shard.proofs.Ends.{last_at}
use Rattle.ds_shard.proofs.expiring.is_last_at.Goals as goal

pub returns-in-Some : goal.returns-in-Some
returns-in-Some c =
    let queue = c.args.queue.now in
    last_at c.args.stamp queue.len queue.items c.in-Some.last.now queue.ok.0 (omega (arith, c.in-Some.ensures.item.3.0, queue.ok.0))
    c.in-Some.ensures.lookup
