use Rattle.std.proofs.Common.{map, take}
use Rattle.ds_plain.proofs.LongLaws.{found_long}
use Rattle.ds_plain.proofs.found.found_rows.Goals as goal

pub returns-clause-long : goal.returns-clause-long
returns-clause-long c =
    found_long c.args.branch.now (map (λ e. e.now) (take c.loop-entity.entity-index c.args.entities.now)) c.loop-entity.found.items
    c.loop-entity.invariant
