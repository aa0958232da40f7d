use Rattle.std.proofs.Common.{sym, subst, true}
use Rattle.ds_pages.specs.Places.{placed}
use Rattle.ds_branch.specs.Kept.{IsPutByKey}
use Rattle.ds_branch.proofs.KeySets.{put_known, put_read}
use Rattle.ds_branch.proofs.Readings.{is_placed}
use Rattle.ds_branch.proofs.kept.read_by_key.Goals as goal

pub returns-then-not-is_new : goal.returns-then-not-is_new
returns-then-not-is_new c = λ rows r are.
    let columns = c.args.columns.now in
    put_known columns c.args.skip c.args.skipped.now c.args.whole.now.items c.args.keys.now.keys c.add_key.new.keys.keys rows
    (placed columns r.row) c.in_ok-key.key.now c.in_ok-is_new.is_new are (is_placed columns c.args.place.now r) (c.in_ok-key.ensures r).stands
    c.in_ok-is_new.ensures.taken c.in_ok-is_new.ensures.keys c.if-not-is_new.true

pub returns : goal.returns
returns c = λ rows r are.
    let columns = c.args.columns.now in
    subst (λ ks. IsPutByKey columns c.args.skip c.args.skipped.now ks c.add_key.new.keys.keys rows (placed columns r.row) true)
    (sym c.in_ok-push.ensures.items)
    (put_read columns c.args.skip c.args.skipped.now c.args.whole.now.items c.args.keys.now.keys c.add_key.new.keys.keys rows
    (placed columns r.row) c.in_ok-key.key.now c.in_ok-is_new.is_new are (is_placed columns c.args.place.now r) (c.in_ok-key.ensures r).stands
    c.in_ok-is_new.ensures.taken c.in_ok-is_new.ensures.keys c.in_ok-row.row c.if-not-is_new.false c.requires.behind
    (c.in_ok-row.ensures r))
