use Rattle.std.proofs.Common.{Bool, ap, sym, ◌∙◌}
use Rattle.std.specs.Prelude.{◌&&◌}
use Rattle.ds_base.specs.declared.column.Column.{Column}
use Rattle.ds_base.specs.KeyColumn.{is_key_name}
use Rattle.ds_rows.proofs.IndexedRows.{last_descends}
use Rattle.ds_rows.proofs.composite.last_key_descends.Goals as goal

pub returns-then-is_key_name : goal.returns-then-is_key_name
returns-then-is_key_name c =
    let last = c.in-Some.last.now in
    let at = c.in-Some.ensures.item.3 in
    ap (λ (b : Bool). b && last.descending) (sym c.if-is_key_name.true ∙ c.is_key_name.ensures)
    ∙ ap (λ (x : Column). is_key_name x.name && x.descending) (at.1 last) ∙ last_descends c.args.columns.now last at.0

pub returns-else-is_key_name : goal.returns-else-is_key_name
returns-else-is_key_name c =
    let last = c.in-Some.last.now in
    let at = c.in-Some.ensures.item.3 in
    c.if-is_key_name.false
    ∙ ap (λ (b : Bool). b && last.descending) (sym c.if-is_key_name.false ∙ c.is_key_name.ensures)
    ∙ ap (λ (x : Column). is_key_name x.name && x.descending) (at.1 last) ∙ last_descends c.args.columns.now last at.0
