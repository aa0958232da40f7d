use Rattle.std.proofs.Common.{◌∙◌}
use Rattle.ds_engine.proofs.Placings.{nth_row, read_all, read_more}
use Rattle.ds_engine.proofs.over_shards.rows_at.Goals as goal

pub loop-place-preserved : goal.loop-place-preserved
loop-place-preserved c = λ rows are.
    let columns = c.args.columns.now in
    let i = c.loop-place.place-index in
    let bytes = c.bytes.result.now in
    let place = c.place-item.result in
    let d = (c.requires i place c.loop-place-test.true).row in
    let r = nth_row columns rows c.args.places.now i bytes place d are c.loop-place-test.true (c.bytes.ensures ∙ c.place-item.is) in
    read_more columns rows c.args.places.now i d c.loop-place.rows.items c.push.new.self.items c.in_ok-row.row are c.loop-place-test.true
    (c.loop-place.invariant rows are) (c.in_ok-row.ensures r) c.in_ok-push.ensures.items

pub returns : goal.returns
returns c = λ rows are.
    read_all c.args.columns.now rows c.args.places.now c.loop-place.place-index c.loop-place.rows.items are c.loop-place-test.false
    (c.loop-place.invariant rows are)
