use Rattle.ds_lanes.proofs.Stores.{turned_kept, turned_written}
use Rattle.ds_lanes.proofs.complements.turn_16.Goals as goal

pub returns : goal.returns
returns c = record {
  kept = turned_kept c.args.dst.now c.args.src.now c.args.at 16 c.requires.room c.requires.same;
  written = turned_written c.args.dst.now c.args.src.now c.args.at 16 c.requires.room c.requires.same c.type_inv.src;
}
