use Rattle.std.proofs.Common.{get_or, subst, arith}
use Rattle.ds_engine.specs.Lanes.{IsLaneOf}
use Rattle.ds_engine.proofs.wide.scan_all.Goals as goal

pub returns : goal.returns
returns g c = λ shard s l below.
    let many = c.requires.lanes in
    let changed = c.for_each_mut.ensures shard l (omega (arith, many, below)) in
    subst (IsLaneOf c.args.query.now.normal.now c.args.query.now.window.now (get_or c.args.snapshots.now shard s)) changed.1.left (changed.1.call s)
