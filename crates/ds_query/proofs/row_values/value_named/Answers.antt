use Rattle.std.proofs.Common.{◌∙◌, sym, arith}
use Rattle.std.specs.Prelude.{bytes_eq}
use Rattle.ds_query.proofs.NamedColumns.{behind_other}
use Rattle.ds_query.proofs.row_values.value_named.Goals as goal

pub loop-column-preserved : goal.loop-column-preserved
loop-column-preserved c =
    record {
      left = behind_other c.args.name.now c.args.columns.now c.args.values.now c.loop-column.column-index c.loop-column.slot
          c.column-item.result c.loop-column-test.true c.column-item.is (sym c.is_key_name.ensures ∙ c.if-is_key_name.false)
          ((λ j. bytes_eq (sym c.text.ensures j) (sym c.text-in-loop-column.ensures j)) ∙ sym c.eq.ensures ∙ c.if-eq.false)
          ∙ c.loop-column.invariant.left;
      few = omega arith;
    }
