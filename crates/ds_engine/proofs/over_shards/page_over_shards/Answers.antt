use Rattle.std.proofs.Common.{◌≡◌, ◌+◌, ◌≤◌, None, ap, arith, length, length-append, subst, sym, take, ◌∙◌}
use Rattle.std.specs.Prelude.{All, IfOk, sum_by}
use Rattle.std.proofs.lemmas.List.{length-map, take_all}
use Rattle.ds_cursor.specs.RowsOfColumns.{IsRowOf}
use Rattle.ds_pages.specs.declared.row_page.RowPage.{RowPage}
use Rattle.ds_pages.specs.Places.{place_of}
use Rattle.ds_branch.specs.Behind.{ArePlaces}
use Rattle.ds_engine.specs.Searches.{bound_in, given_in, given_over, most_of, page_in_order}
use Rattle.ds_engine.specs.Snapshots.{SnapshotParts, asked_in}
use Rattle.ds_engine.proofs.FewRows.{in_order-few}
use Rattle.ds_engine.proofs.FewerSteps.{bound-le, steps-last, steps-more, sum-le}
use Rattle.ds_engine.proofs.Placings.{all_rows, shards_more}
use Rattle.ds_branch.proofs.OkLaws.{ok_then, on_err, on_ok}
use Rattle.ds_engine.proofs.over_shards.page_over_shards.Goals as goal

pub loop-snapshot-preserved : goal.loop-snapshot-preserved
loop-snapshot-preserved g c =
    let n = c.args.query.now.normal.now in
    let w = c.args.query.now.window.now in
    let q = c.args.branch.now in
    let i = c.loop-snapshot.snapshot-index in
    let s = c.snapshot-item.result in
    let list = c.in_ok-list.list in
    let each = c.in_ok-list.ensures.a_step_for_each in
    let before = c.loop-snapshot.invariant.counted in
    let more = ap length c.in_ok-append.ensures.items ∙ length-append c.loop-snapshot.places.items list.items in
    record {
      places = shards_more q.columns (given_in n w q) c.args.snapshots.now i s
          c.loop-snapshot.places.items list.items c.append.new.self.items c.loop-snapshot-test.true c.snapshot-item.is
          c.loop-snapshot.invariant.places c.in_ok-list.ensures.places c.in_ok-append.ensures.items;
      steps = steps-more (bound_in w (most_of n w) q) c.args.snapshots.now i s
          c.loop-snapshot-test.true c.snapshot-item.is c.args.steps.now c.loop-snapshot.steps c.places.new.steps
          c.loop-snapshot.invariant.steps c.in_ok-list.ensures.steps;
      counted = omega (arith, each, before, more);
    }

pub returns-in_err-list-clause-refused : goal.returns-in_err-list-clause-refused
returns-in_err-list-clause-refused g c =
    let w = c.args.query.now.window.now in
    let q = c.args.branch.now in
    let most = most_of c.args.query.now.normal.now w in
    on_err c.from_residual.result (c.places.new.steps ≤ c.args.steps.now + sum_by (bound_in w None q) c.args.snapshots.now)
    (steps-last (bound_in w None q) c.args.snapshots.now c.loop-snapshot.snapshot-index c.snapshot-item.result c.loop-snapshot-test.true
    c.snapshot-item.is (bound_in w most q) (λ (s : SnapshotParts). bound-le q w.start w.end most (asked_in s))
    c.args.steps.now c.loop-snapshot.steps c.places.new.steps c.loop-snapshot.invariant.steps c.in_err-list.ensures.refused)

pub returns-in_err-append-clause-refused : goal.returns-in_err-append-clause-refused
returns-in_err-append-clause-refused g c =
    let w = c.args.query.now.window.now in
    let q = c.args.branch.now in
    let s = c.snapshot-item.result in
    let most = most_of c.args.query.now.normal.now w in
    let fewer = bound-le q w.start w.end most (asked_in s) in
    let steps = c.in_ok-list.ensures.steps in
    on_err c.from_residual-in_err-append.result (c.places.new.steps ≤ c.args.steps.now + sum_by (bound_in w None q) c.args.snapshots.now)
    (steps-last (bound_in w None q) c.args.snapshots.now c.loop-snapshot.snapshot-index s c.loop-snapshot-test.true
    c.snapshot-item.is (bound_in w most q) (λ (x : SnapshotParts). bound-le q w.start w.end most (asked_in x))
    c.args.steps.now c.loop-snapshot.steps c.places.new.steps c.loop-snapshot.invariant.steps (omega (arith, steps, fewer)))

pub page_of_places-requires : goal.page_of_places-requires
page_of_places-requires g c =
    let q = c.args.branch.now in
    subst (λ cs. All (IsRowOf cs) c.loop-snapshot.places.items) (sym c.as_slice.ensures)
    (all_rows q.columns (given_over c.args.query.now.normal.now c.args.query.now.window.now q
    (take c.loop-snapshot.snapshot-index c.args.snapshots.now))
    c.loop-snapshot.places.items c.loop-snapshot.invariant.places)

pub returns-clause-page : goal.returns-clause-page
returns-clause-page g c =
    let n = c.args.query.now.normal.now in
    let w = c.args.query.now.window.now in
    let q = c.args.branch.now in
    let ss = c.args.snapshots.now in
    let places = c.loop-snapshot.places.items in
    let all : ArePlaces q.columns (given_over n w q ss) places =
    subst (λ xs. ArePlaces q.columns (given_over n w q xs) places) (take_all c.loop-snapshot.snapshot-index ss c.loop-snapshot-test.false)
    c.loop-snapshot.invariant.places in
    subst (λ cs. IfOk c.page_of_places.result (λ page. page ≡ page_in_order cs w (given_over n w q ss))) c.as_slice.ensures
    (c.page_of_places.ensures (given_over n w q ss) (subst (λ cs. ArePlaces cs (given_over n w q ss) places) (sym c.as_slice.ensures) all))

pub returns-clause-steps : goal.returns-clause-steps
returns-clause-steps g c =
    let w = c.args.query.now.window.now in
    let f = bound_in w (most_of c.args.query.now.normal.now w) c.args.branch.now in
    on_ok c.page_of_places.result (c.loop-snapshot.steps ≤ c.args.steps.now + sum_by f c.args.snapshots.now)
    (subst (λ ss. c.loop-snapshot.steps ≤ c.args.steps.now + sum_by f ss)
    (take_all c.loop-snapshot.snapshot-index c.args.snapshots.now c.loop-snapshot-test.false) c.loop-snapshot.invariant.steps)

pub returns-clause-refused : goal.returns-clause-refused
returns-clause-refused g c =
    let w = c.args.query.now.window.now in
    let q = c.args.branch.now in
    let most = most_of c.args.query.now.normal.now w in
    let ss = c.args.snapshots.now in
    let so_far = subst (λ xs. c.loop-snapshot.steps ≤ c.args.steps.now + sum_by (bound_in w most q) xs)
    (take_all c.loop-snapshot.snapshot-index ss c.loop-snapshot-test.false) c.loop-snapshot.invariant.steps in
    let fewer = sum-le (bound_in w most q) (bound_in w None q) ss (λ (s : SnapshotParts). bound-le q w.start w.end most (asked_in s)) in
    on_err c.page_of_places.result (c.loop-snapshot.steps ≤ c.args.steps.now + sum_by (bound_in w None q) ss)
    (omega (arith, so_far, fewer))

pub returns-clause-a_step_for_each : goal.returns-clause-a_step_for_each
returns-clause-a_step_for_each g c =
    let n = c.args.query.now.normal.now in
    let w = c.args.query.now.window.now in
    let q = c.args.branch.now in
    let ss = take c.loop-snapshot.snapshot-index c.args.snapshots.now in
    let rows = given_over n w q ss in
    let places = c.loop-snapshot.places.items in
    let are = c.loop-snapshot.invariant.places in
    let many = ap length are.are ∙ length-map rows (place_of q.columns) in
    let few = in_order-few q.columns w rows in
    let each = c.loop-snapshot.invariant.counted in
    ok_then c.page_of_places.result
    (c.page_of_places.ensures rows (subst (λ cs. ArePlaces cs rows places) (sym c.as_slice.ensures) are))
    (λ page is.
    let same = ap (λ (m : RowPage). length m.rows) (is ∙ ap (λ cs. page_in_order cs w rows) c.as_slice.ensures) in
    omega (arith, same, few, many, each))
