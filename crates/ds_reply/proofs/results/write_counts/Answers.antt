use Rattle.std.proofs.Common.{refl}
use Rattle.ds_json_printing.specs.Printing.{natural}
use Rattle.ds_reply.specs.Results.{count_items}
use Rattle.ds_json_printing.proofs.Chains.{items-more}
use Rattle.ds_reply.proofs.results.write_counts.Goals as goal

pub loop-count-preserved : goal.loop-count-preserved
loop-count-preserved g c =
    let j = g.met.O.Output.joined in
    let more = items-more count_items natural (λ x xs. refl) c.loop-count.later c.args.counts.now c.loop-count.count-index 0 c.loop-count-test.true in
    let one = c.write_natural.ensures in
    λ u h. c.loop-count.invariant u (rw more at (j _ _ _ _ _ c.write_comma.ensures (j _ _ _ _ _ one h)))
