use Rattle.std.proofs.Common.{arith}
use Rattle.ds_lanes.specs.Hits.{visible_at}
use Rattle.ds_lanes.proofs.Loads.{seen}
use Rattle.ds_lanes.proofs.Marked.{first_place}
use Rattle.ds_lanes.proofs.columns.seen_among_lanes.Goals as goal

pub returns : goal.returns
returns c =
    let from = c.args.from.now in
    let to = c.args.to.now in
    first_place (visible_at from to c.args.at) c.args.i 4 63 c.lanes_before.result _
    (seen from to c.begun_ends.result c.args.at c.args.i 4 c.begun_ends.ensures.long c.begun_ends.ensures.each) (omega arith) c.lanes_before.ensures.value
