use Rattle.std.proofs.Common.{arith}
use Rattle.std.proofs.lemmas.Grind.{common_steps}
use Rattle.ds_query.proofs.SplitLemmas.{counted_more}
use Rattle.ds_query.proofs.splitting.count_conditions.Goals as goal

pub loop-filter-preserved : goal.loop-filter-preserved
loop-filter-preserved c =
    counted_more c.args.filters.now c.loop-filter.filter-index c.filter-item.result c.filter-item.result c.loop-filter.count c.count_choices.result c.saturating_mul.result c.min-count.result c.loop-filter-test.true (grind (arith, common_steps)) c.requires c.count_choices.ensures c.saturating_mul.ensures c.min-count.ensures c.loop-filter.invariant
