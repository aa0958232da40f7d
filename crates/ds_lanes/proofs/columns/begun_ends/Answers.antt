use Rattle.std.proofs.Common.{arith}
use Rattle.ds_lanes.proofs.Loads.{ends}
use Rattle.ds_lanes.proofs.columns.begun_ends.Goals as goal

pub returns : goal.returns
returns c =
    let parts = ends c.args.from.now c.args.to.now c.args.at c.args.i 4 (omega arith) (omega arith) in
    record { long = parts.0; each = parts.1 }
