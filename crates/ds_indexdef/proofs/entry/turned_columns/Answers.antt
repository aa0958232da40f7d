use Rattle.std.proofs.Common.{ap, sym, ◌∙◌, arith, length}
use Rattle.ds_indexdef.proofs.ColumnLaws.{turned_columns-by, turned_columns-none}
use Rattle.ds_indexdef.proofs.entry.turned_columns.Goals as goal
use Rattle.ds_indexdef.proofs.entry.turned_columns.Goals.{then-count-gt0, else-count-gt0}

pub returns : goal.returns
returns c = elim c.if-count-gt0.branch [
  | then-count-gt0 w ↦ c.from.ensures ∙ ap (λ v. v.items) w.columns-is
      ∙ turned_columns-by c.into_vec-columns.result.items c.args.columns c.len-count.result w.index_mut-last.result.now c.args.descending c.into_vec-columns.ensures
      (omega (arith, c.into_vec-columns.result.ok.0)) w.if-count-gt0.true w.index_mut-last.ensures.value
  | else-count-gt0 w ↦ c.from.ensures ∙ ap (λ v. v.items) w.columns-is ∙ c.into_vec-columns.ensures
      ∙ sym (turned_columns-none c.args.columns c.args.descending (ap length (sym c.into_vec-columns.ensures) ∙ omega (arith, c.into_vec-columns.result.ok.0)))
]
