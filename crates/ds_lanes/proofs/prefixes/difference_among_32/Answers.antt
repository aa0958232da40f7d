use Rattle.std.proofs.Common.{arith}
use Rattle.ds_lanes.specs.Hits.{differ_at}
use Rattle.ds_lanes.proofs.Loads.{differing}
use Rattle.ds_lanes.proofs.Marked.{first_place}
use Rattle.ds_lanes.proofs.prefixes.difference_among_32.Goals as goal

pub returns : goal.returns
returns c = first_place (differ_at c.args.a.now c.args.b.now) c.args.at 32 7 c.lanes_before.result _ (differing c.args.a.now c.args.b.now c.args.at 32 (omega arith) (omega arith)) (omega arith) c.lanes_before.ensures.value
