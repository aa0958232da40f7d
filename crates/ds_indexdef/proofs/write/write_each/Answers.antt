use Rattle.std.proofs.Common.{◌∙◌, ◌++◌, ap, arith}
use Rattle.std.specs.List.{flat_map}
use Rattle.ds_base.specs.declared.column.Column.{Column}
use Rattle.ds_indexdef.specs.Text.{line, column_lines}
use Rattle.ds_indexdef.proofs.WriteLaws.{pieces-more}
use Rattle.ds_indexdef.proofs.write.write_each.Goals as goal

pub loop-column-preserved : goal.loop-column-preserved
loop-column-preserved c =
    let item = c.column-item.result in
    pieces-more column_lines c.args.columns.now c.loop-column.column-index item c.args.text.now c.loop-column.text c.write_column.new.text
    (omega arith) c.column-item.is c.loop-column.invariant
    (c.in_ok-write_column.ensures ∙ ap (λ n. c.loop-column.text ++ flat_map line (column_lines (record { name = n; descending = item.descending }))) c.bytes.ensures.value)
