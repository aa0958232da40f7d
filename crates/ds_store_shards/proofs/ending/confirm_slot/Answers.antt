use Rattle.std.proofs.Common.{length}
use Rattle.ds_model.specs.Sessions.{list_of}
use Rattle.ds_store_shards.proofs.Beginnings.{shard-begins}
use Rattle.ds_store_shards.proofs.ending.confirm_slot.Goals as goal

pub returns : goal.returns
returns g c =
    let shard = c.args.shard.now in
    shard-begins c.args.journal.now.published shard.journal.known shard.number (length g.J.Names.shards) shard.shards
    (list_of c.args.pass.now.lists shard.number) shard.writer.writer.published shard.writer.writer.pending shard.waiting.items
    c.confirm.ensures shard.list shard.of_all.0 c.confirm_pass.ensures
