use Rattle.std.proofs.Common.{arith}
use Rattle.ds_store_shards.proofs.ShardLists.{entries_within}
use Rattle.ds_store_shards.proofs.shard_desk.ShardDesk.entries_up_to.Goals as goal

pub returns-clause-within : goal.returns-clause-within
returns-clause-within g c =
    let desk = c.args.self.now in
    omega (
      arith,
      entries_within desk.number desk.shards desk.journal.known c.args.place,
      c.up_to.ensures.entries desk.journal.known desk.number desk.shards desk.numbers,
    )
