use Rattle.std.proofs.Common.{length, sym, ◌∙◌}
use Rattle.std.proofs.lemmas.Bool.{eqb-true}
use Rattle.ds_rows.proofs.WayLaws.{no_way}
use Rattle.ds_rows.proofs.ways.none_if_all.Goals as goal

pub returns-then-is_empty : goal.returns-then-is_empty
returns-then-is_empty c =
    no_way c.args.columns.now c.loop-column.column-index c.column-item.result c.loop-column-test.true c.column-item.is
    (eqb-true (length c.column-item.result.values.now) 0 (sym c.is_empty.ensures ∙ c.if-is_empty.true))
