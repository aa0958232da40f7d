use Rattle.std.proofs.Common.{arith}
use Rattle.ds_lanes.specs.Hits.{zero_at}
use Rattle.ds_lanes.proofs.Loads.{zeros}
use Rattle.ds_lanes.proofs.Marked.{first_place}
use Rattle.ds_lanes.proofs.zeros.zero_among_8.Goals as goal

pub returns : goal.returns
returns c = first_place (zero_at c.args.bytes.now) c.args.at 8 7 c.lanes_before.result _ (zeros c.args.bytes.now c.args.at 8 (omega arith)) (omega arith) c.lanes_before.ensures.value
