use Rattle.ds_lanes.proofs.Stores.{stored_kept, stored_written}
use Rattle.ds_lanes.proofs.complements.store.Goals as goal

pub returns : goal.returns
returns c = record {
  kept = stored_kept c.args.dst.now c.args.lanes c.args.at c.requires.long c.requires.room;
  written = stored_written c.args.dst.now c.args.lanes c.args.at c.requires.long c.requires.room;
}
