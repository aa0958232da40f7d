use Rattle.ds_query.specs.PairOrderLaws.{pair_cmp-Equal}
use Rattle.ds_query.proofs.pair_order.PairOrd.cmp.Goals as goal

pub returns-clause-same : goal.returns-clause-same
returns-clause-same c = rw c.compare_pairs.ensures (pair_cmp-Equal c.args.self.now c.args.other.now)
