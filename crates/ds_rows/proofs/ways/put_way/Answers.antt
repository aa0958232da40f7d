use Rattle.std.proofs.Common.{◌≡◌, ◌+◌, ◌/◌, ◌%◌, ◌<◌, length, get_or, drop, refl, ap, sym, subst, ◌∙◌}
use Rattle.std.proofs.lemmas.List.{get_or_default}
use Rattle.ds_rows.specs.Spans.{Written}
use Rattle.ds_rows.proofs.WayLaws.{left_step, value_put, lawful_more, behind}
use Rattle.ds_rows.proofs.ways.put_way.Goals as goal

pub nonzero_div-stride : goal.nonzero_div-stride
nonzero_div-stride c =
    (left_step c.args.columns.now c.loop-column.column-index c.loop-column.stride c.loop-column.left c.column-item.result
    c.loop-column-test.true
    c.column-item.is c.loop-column.invariant.stride c.loop-column.invariant.below).some

pub bounds-column-left : goal.bounds-column-left
bounds-column-left c =
    let s = left_step c.args.columns.now c.loop-column.column-index c.loop-column.stride c.loop-column.left c.column-item.result
    c.loop-column-test.true
    c.column-item.is c.loop-column.invariant.stride c.loop-column.invariant.below in
    subst (λ n. c.loop-column.left / n < length c.column-item.result.values.now) (sym s.next) s.within

pub loop-column-preserved : goal.loop-column-preserved
loop-column-preserved c =
    let columns = c.args.columns.now in
    let i = c.loop-column.column-index in
    let left = c.loop-column.left in
    let column = c.column-item.result in
    let next = c.loop-column.stride / length column.values.now in
    let s = left_step columns i c.loop-column.stride left column c.loop-column-test.true c.column-item.is c.loop-column.invariant.stride
    c.loop-column.invariant.below in
    let inside : left / next < length column.values.now = subst (λ n. left / n < length column.values.now) (sym s.next) s.within in
    let v = get_or column.values.now (left / next) c.index-column-left.result in
    let read : v ≡ get_or column.values.now (left / next) v = get_or_default column.values.now
    (left / next) c.index-column-left.result v inside in
    record {
      rows = ap (λ (w : Written). w.rows) c.in_ok-append_value.ensures.put ∙ c.loop-column.invariant.rows;
      so_far = ap (λ (w : Written). behind w.begun (drop (i + 1) columns) (left % next)) c.in_ok-append_value.ensures.put
          ∙ value_put columns i left next
          (left / next) column v c.loop-column.rows.begun c.loop-column-test.true c.column-item.is s.next refl inside
          read
          ∙ c.loop-column.invariant.so_far;
      lawful = λ others. c.loop-column.invariant.lawful
          (lawful_more columns i left next (left / next) column v c.loop-column-test.true c.column-item.is s.next refl inside read
          c.in_ok-append_value.ensures.lawful others);
      stride = s.next;
      below = subst (λ n. left % n < n) (sym s.next) s.below;
    }
