use Rattle.std.proofs.Common.{◌+◌, ◌≤◌, None, arith, map}
use Rattle.ds_pages.specs.Places.{placed}
use Rattle.ds_branch.proofs.OkLaws.{ok_then, on_err}
use Rattle.ds_engine.specs.Searches.{bound_in, given_in, most_of}
use Rattle.ds_engine.specs.Snapshots.{asked_in}
use Rattle.ds_engine.proofs.FewRows.{cut-few}
use Rattle.ds_engine.proofs.FewerSteps.{bound-le}
use Rattle.ds_engine.proofs.alone.page_alone.Goals as goal

pub returns-clause-page : goal.returns-clause-page
returns-clause-page g c =
    let q = c.args.branch.now in
    c.page_of.ensures q.columns
    (map (placed q.columns) (given_in c.args.query.now.normal.now c.args.query.now.window.now q c.args.snapshot.now))
    c.in_ok-found.ensures.rows

pub returns-clause-refused : goal.returns-clause-refused
returns-clause-refused g c =
    let q = c.args.branch.now in
    let w = c.args.query.now.window.now in
    let fewer = bound-le q w.start w.end (most_of c.args.query.now.normal.now w) (asked_in c.args.snapshot.now) in
    let within = c.in_ok-found.ensures.steps in
    on_err c.page_of.result (c.answer_behind.new.steps ≤ c.args.steps.now + bound_in w None q c.args.snapshot.now)
    (omega (arith, fewer, within))

pub returns-clause-a_step_for_each : goal.returns-clause-a_step_for_each
returns-clause-a_step_for_each g c =
    let q = c.args.branch.now in
    let w = c.args.query.now.window.now in
    let rows = map (placed q.columns) (given_in c.args.query.now.normal.now w q c.args.snapshot.now) in
    let count = c.in_ok-found.ensures.rows.count in
    let each = c.in_ok-found.ensures.a_step_for_each in
    ok_then c.page_of.result (c.page_of.ensures q.columns rows c.in_ok-found.ensures.rows)
    (λ page cut. let few = cut-few w.offset rows page.rows cut.rows in omega (arith, few, count, each))
