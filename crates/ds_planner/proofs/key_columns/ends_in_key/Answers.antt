use Rattle.std.proofs.Common.{sym, ap, ◌∙◌, ◌-◌, take, length}
use Rattle.ds_query.specs.Lawful.{ends_in_key}
use Rattle.ds_planner.proofs.ColumnEnds.{last_split, ends_in_key-last}
use Rattle.ds_planner.proofs.key_columns.ends_in_key.Goals as goal

pub returns-in-len1-up : goal.returns-in-len1-up
returns-in-len1-up c =
    let cs = c.args.columns.now in
    c.is_key_name.ensures ∙ sym (ap ends_in_key (last_split cs c.last-item.result c.in-len1-up.len_at_least c.last-item.is) ∙ ends_in_key-last (take (length cs - 1) cs) c.last-item.result)
