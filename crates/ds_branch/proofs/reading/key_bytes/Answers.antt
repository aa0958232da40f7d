use Rattle.std.proofs.Common.{ap, sym, ◌∙◌}
use Rattle.ds_base.specs.KeyColumn.{key_descends}
use Rattle.ds_branch.proofs.Readings.{none_read, value_stands, value_read, key_passed, all_read}
use Rattle.ds_branch.proofs.reading.key_bytes.Goals as goal
use Rattle.ds_branch.proofs.reading.key_bytes.Goals.{then-not-is_key_name+in_ok-rest, else-not-is_key_name}

pub loop-column-init : goal.loop-column-init
loop-column-init c = λ r. none_read c.args.columns.now c.args.place.now c.args.values.now.items c.requires.none r

pub put_value-requires : goal.put_value-requires
put_value-requires c =
    value_stands c.args.columns.now c.loop-column.column-index c.column-item.result (key_descends c.args.columns.now)
    c.loop-column.values.items
    c.loop-column.rest.now c.requires.row.row c.loop-column-test.true c.column-item.is (c.loop-column.invariant c.requires.row)
    (sym c.is_key_name.ensures ∙ c.if-not-is_key_name.true)

pub loop-column-preserved : goal.loop-column-preserved
loop-column-preserved c = λ r.
    let columns = c.args.columns.now in
    let i = c.loop-column.column-index in
    let column = c.column-item.result in
    let kd = key_descends columns in
    let values = c.loop-column.values.items in
    let rest = c.loop-column.rest.now in
    let below = c.loop-column-test.true in
    let left = c.loop-column.invariant r in
    elim c.if-not-is_key_name.branch [
      | then-not-is_key_name+in_ok-rest w ↦
          rw (ap (λ v. v.items) w.values-is, ap (λ b. b.now) w.rest-is)
          (value_read columns i column kd values rest r.row below c.column-item.is left (sym c.is_key_name.ensures
          ∙ w.if-not-is_key_name.true)
          w.put_value.new.values.items w.in_ok-rest.rest.now w.in_ok-rest.ensures)
      | else-not-is_key_name w ↦
          rw (ap (λ v. v.items) w.values-is, ap (λ b. b.now) w.rest-is)
          (key_passed columns i column kd values rest r.row below c.column-item.is left (sym c.is_key_name.ensures
          ∙ w.if-not-is_key_name.false))
    ]

pub returns : goal.returns
returns c = λ r.
    all_read c.args.columns.now c.loop-column.column-index c.loop-column.values.items c.loop-column.rest.now r.row c.loop-column-test.false
    (c.loop-column.invariant r)
