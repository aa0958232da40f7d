use Rattle.std.proofs.Common.{◌++◌, ◌∷◌, [], map, ap, ◌∙◌, arith}
use Rattle.std.specs.Prelude.{filter}
use Rattle.ds_query.specs.RowValues.{value_columns}
use Rattle.ds_rows.specs.IndexedValues.{indexed_values}
use Rattle.ds_plain.specs.FoundRows.{found_of, is_in}
use Rattle.ds_plain.proofs.FoundLaws.{way_put, ways_put, none}
use Rattle.ds_plain.proofs.found.put_entity.Goals as goal

pub loop-values-preserved : goal.loop-values-preserved
loop-values-preserved c =
    way_put (is_in c.args.branch.now.range) (found_of c.args.entity.now.key) c.loop-values.found.items
    c.put_way.new.found.items c.loop-values.values-iterator.rest.items c.next.new.self.rest.items c.in-Some.values _
    c.in-Some.ensures.steps.0
    (c.in_ok-put_way.ensures ∙ ap (λ k. c.loop-values.found.items
    ++ filter (is_in c.args.branch.now.range) (found_of k c.in-Some.values ∷ [])) c.key.ensures.value)
    c.loop-values.invariant

pub returns : goal.returns
returns c =
    let left = c.loop-values.values-iterator.rest in
    ways_put c.args.branch.now c.args.entity.now c.loop-values.found.items c.args.found.now.items left.items c.in_ok-lists.lists.items
    (none left.items (omega (arith, left.ok.0, c.in-None.ensures.steps.0)))
    (c.in_ok-lists.ensures
    ∙ ap (λ cs. map (λ col. indexed_values c.args.entity.now col.name) (value_columns cs)) c.as_slice.ensures)
    c.loop-values.invariant
