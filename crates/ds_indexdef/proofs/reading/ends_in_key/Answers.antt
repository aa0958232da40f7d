use Rattle.std.proofs.Common.{ap, sym, ◌∙◌, arith}
use Rattle.ds_base.specs.KeyColumn.{is_ascending_key}
use Rattle.ds_indexdef.proofs.ColumnLaws.{ends_in_key-last}
use Rattle.ds_indexdef.proofs.reading.ends_in_key.Goals as goal

pub returns-in-len1-up-clause-value : goal.returns-in-len1-up-clause-value
returns-in-len1-up-clause-value c =
    c.is_ascending_key.ensures ∙ ap is_ascending_key c.last-item.is ∙ sym (ends_in_key-last c.args.columns.now c.last-item.result (omega (arith, c.in-len1-up.len_at_least)))
