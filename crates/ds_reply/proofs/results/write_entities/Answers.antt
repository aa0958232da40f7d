use Rattle.std.proofs.Common.{refl}
use Rattle.ds_query.specs.declared.query.Select.TheVariants as select
use Rattle.ds_reply.specs.Results.{result_items, result_data}
use Rattle.ds_json_printing.proofs.Chains.{items-more}
use Rattle.ds_reply.proofs.results.write_entities.Goals as goal

pub loop-result-preserved : goal.loop-result-preserved
loop-result-preserved g c =
    let j = g.met.O.Output.joined in
    let more = items-more (result_items select.Entities) (result_data select.Entities) (λ x xs. refl) c.loop-result.later c.args.results.now c.loop-result.result-index c.result-item.result c.loop-result-test.true in
    let one = rw c.result-item.is at c.write_optional_entity.ensures in
    λ u h. c.loop-result.invariant u (rw more at (j _ _ _ _ _ c.write_comma.ensures (j _ _ _ _ _ one h)))
