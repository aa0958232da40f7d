use Rattle.std.proofs.Common.{◌≡◌, ◌*◌, min, arith, ap, ◌∙◌}
use Rattle.ds_base.specs.Limits.{greatest_told}
use Rattle.ds_base.specs.declared.column.Column.{Column}
use Rattle.ds_rows.specs.Counts.{column_count}
use Rattle.ds_rows.proofs.Products.{product_step, product_done}
use Rattle.ds_rows.proofs.count.combinations.Goals as goal

pub loop-column-preserved : goal.loop-column-preserved
loop-column-preserved c =
    let stopped : c.min-count.result ≡ min (c.loop-column.count * c.column_count.result) greatest_told = omega arith in
    record {
      so_far = product_step (λ
          (column : Column). column_count c.args.entity.now column.name) c.args.columns.now c.loop-column.column-index c.loop-column.count
          c.min-count.result greatest_told _ c.column-item.result c.loop-column-test.true c.column-item.is c.loop-column.invariant.so_far
          (stopped ∙ ap (λ n. min (c.loop-column.count * n) greatest_told) c.column_count.ensures);
      told = omega arith;
    }

pub returns : goal.returns
returns c =
    product_done (λ (column : Column). column_count c.args.entity.now column.name) c.args.columns.now c.loop-column.column-index
    c.loop-column.count
    greatest_told _ c.loop-column-test.false c.loop-column.invariant.told c.loop-column.invariant.so_far
