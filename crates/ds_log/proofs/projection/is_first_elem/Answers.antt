use Rattle.std.proofs.Common.{arith}
use Rattle.ds_log.proofs.Roots.{first_elem}
use Rattle.ds_log.proofs.projection.is_first_elem.Goals as goal

pub returns-in-len1 : goal.returns-in-len1
returns-in-len1 c =
    first_elem c.args.path.now c.args.root.now c.first-item.result c.only-item.result c.eq.result c.in-len1-up.len_at_least
    (omega arith) c.first-item.is c.only-item.is c.eq.ensures
