use Rattle.ds_lanes.proofs.Found.{first_visible_is}
use Rattle.ds_lanes.proofs.columns.first_visible.Goals as goal

pub returns-clause-value : goal.returns-clause-value
returns-clause-value c =
    let f = c.seen_place.ensures in
    first_visible_is c.args.from.now c.args.to.now c.args.at c.seen_place.result c.requires f.within f.passed f.here
