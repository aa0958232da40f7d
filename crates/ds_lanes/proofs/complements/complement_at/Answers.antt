use Rattle.std.proofs.Common.{arith}
use Rattle.ds_lanes.proofs.Stores.{complemented}
use Rattle.ds_lanes.proofs.complements.complement_at.Goals as goal

pub returns : goal.returns
returns c =
    let parts = complemented c.args.src.now c.args.at 32 (omega arith) c.type_inv.src in
    record { long = parts.0; each = parts.1 }
