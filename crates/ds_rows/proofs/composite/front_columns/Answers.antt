use Rattle.std.proofs.Common.{ap, sym, ◌∙◌}
use Rattle.ds_base.specs.declared.column.Column.{Column}
use Rattle.ds_base.specs.KeyColumn.{is_key_name}
use Rattle.ds_rows.proofs.IndexedRows.{columns_before_key, columns_with_none}
use Rattle.ds_rows.proofs.composite.front_columns.Goals as goal

pub returns-in-Some : goal.returns-in-Some
returns-in-Some c =
    let last = c.in-Some.last.now in
    let at = c.in-Some.ensures.item.3 in
    columns_before_key c.args.columns.now last at.0
    (ap (λ (x : Column). is_key_name x.name) (sym (at.1 last)) ∙ sym c.is_key_name.ensures ∙ c.if-is_key_name.true)

pub returns-in_default : goal.returns-in_default
returns-in_default c =
    let last = c.in-Some.last.now in
    let at = c.in-Some.ensures.item.3 in
    columns_with_none c.args.columns.now last
    (λ some. ap (λ (x : Column). is_key_name x.name) (sym (at.1 last)) ∙ sym c.is_key_name.ensures ∙ c.if-is_key_name.false)
