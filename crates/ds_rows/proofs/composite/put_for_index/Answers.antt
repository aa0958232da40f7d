use Rattle.std.proofs.Common.{◌≡◌, map, ap, sym, ◌∙◌}
use Rattle.std.specs.Prelude.{flat_map}
use Rattle.ds_base.specs.Keys.{KeyParts}
use Rattle.ds_rows.specs.IndexedValues.{each_way}
use Rattle.ds_rows.specs.Rows.{ancestors, rows_in}
use Rattle.ds_rows.specs.Ways.{lists_of, directions_of, row_of_way, ancestor_rows}
use Rattle.ds_rows.proofs.Pieces.{on_ok}
use Rattle.ds_rows.proofs.IndexedRows.{rows_put, rows_with, rows_without}
use Rattle.ds_rows.proofs.composite.put_for_index.Goals as goal

pub returns-then-ancestor : goal.returns-then-ancestor
returns-then-ancestor c = λ e i key has front last lists descends.
    let columns = c.args.columns.now in
    let rows : flat_map (ancestor_rows c.args.front.now.bytes columns c.args.last.now) (ancestors c.args.key.now) ≡ rows_in e i =
    ap (λ (k : KeyParts). flat_map (ancestor_rows c.args.front.now.bytes columns c.args.last.now) (ancestors k)) (sym key)
    ∙ rows_with e i c.args.front.now.bytes c.args.last.now columns (has ∙ c.if-ancestor.true) front last lists descends in
    on_ok c.put_for_ancestors.result (rows_put c.args.rows.now c.put_for_ancestors.new.rows _ _ rows) c.put_for_ancestors.ensures

pub returns : goal.returns
returns c = λ e i key has front last lists descends.
    let columns = c.args.columns.now in
    let rows : map (row_of_way c.bytes.result.now columns c.args.last.now) (each_way (lists_of columns)) ≡ rows_in e i =
    rows_without e i c.bytes.result.now c.args.last.now (lists_of columns) (directions_of columns) (has ∙ c.if-ancestor.false)
    (c.bytes.ensures ∙ front) last lists descends in
    on_ok c.put_rows.result (rows_put c.args.rows.now c.put_rows.new.rows _ _ rows) c.put_rows.ensures.put
