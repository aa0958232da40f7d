use Rattle.std.proofs.Common.{◌++◌, ◌∙◌}
use Rattle.ds_shard.specs.States.{begun}
use Rattle.ds_store_shards.proofs.OwnEntries.{waiting_of_shard}
use Rattle.ds_store_shards.proofs.shard_desk.ShardDesk.apply_next.Goals as goal

pub publish_waiting-requires-clause-belong : goal.publish_waiting-requires-clause-belong
publish_waiting-requires-clause-belong g c =
    let desk = c.args.self.now in
    let writer = desk.writer.writer in
    waiting_of_shard
    (begun g.J.Names.ledger (record { shards = desk.shards; number = desk.number }) g.J.Names.definitions g.J.Names.window)
    c.publish_pending.new.writer.start desk.journal.known (writer.published ++ writer.pending) desk.waiting.items desk.list
    (c.in_ok-publish_pending.ensures.same.1 ∙ desk.begun)
