use Rattle.std.proofs.Common.{sym, ◌∙◌, ap}
use Rattle.ds_cursor.specs.RowSteps.{Behind}
use Rattle.ds_cursor.proofs.RowLemmas.{value_step, key_step}
use Rattle.ds_cursor.proofs.rows.is_row.Goals as goal
use Rattle.ds_cursor.proofs.rows.is_row.Goals.{then-not-is_key_name+in_ok-behind_value+in-Some, else-not-is_key_name}

pub loop-column-preserved : goal.loop-column-preserved
loop-column-preserved c =
    let columns = c.args.columns.now in
    let i = c.loop-column.column-index in
    let column = c.column-item.result in
    elim c.if-not-is_key_name.branch [
      | then-not-is_key_name+in_ok-behind_value+in-Some w ↦
          let over : Behind column.descending c.loop-column.rest.now w.in-Some.behind.now = rw w.in-Some.is at w.in_ok-behind_value.ensures in
          rw (ap (λ b. b.now) w.rest-is) (value_step columns i column c.args.descending c.args.bytes.now c.loop-column.rest.now w.in-Some.behind.now
          c.loop-column-test.true c.column-item.is (sym c.is_key_name.ensures ∙ w.if-not-is_key_name.true) over c.loop-column.invariant)
      | else-not-is_key_name w ↦
          rw (ap (λ b. b.now) w.rest-is) (key_step columns i column c.args.descending c.args.bytes.now c.loop-column.rest.now
          c.loop-column-test.true c.column-item.is (sym c.is_key_name.ensures ∙ w.if-not-is_key_name.false) c.loop-column.invariant)
    ]
