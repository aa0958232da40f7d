use Rattle.std.proofs.Common.{sym, ◌∙◌, ◌||◌, ◌&&◌}
use Rattle.ds_query.specs.Lawful.{has_pair}
use Rattle.ds_planner.proofs.ColumnEnds.{pairs_by_property}
use Rattle.ds_planner.proofs.indexes.is_property_paired.Goals as goal

pub returns-else-is_by_key : goal.returns-else-is_by_key
returns-else-is_by_key c =
    let columns = c.args.columns.now in
    let pairs = c.args.pairs.now in
    let other = sym c.is_by_property.ensures ∙ c.if-is_by_property.false in
    let unordered = sym c.is_by_key.ensures ∙ c.if-is_by_key.false in
    c.if-is_by_key.false ∙ sym (pairs_by_property (record { name = c.args.name.now; descending = c.args.descending }) columns pairs c.requires ∙ (λ i. other i || (unordered i && has_pair pairs c.args.name.now)))
