use Rattle.std.proofs.Common.{◌+◌, ◌≤◌, None, arith}
use Rattle.ds_engine.specs.Searches.{bound_in, most_of}
use Rattle.ds_engine.specs.Snapshots.{asked_in}
use Rattle.ds_engine.proofs.FewerSteps.{bound-le}
use Rattle.ds_branch.proofs.OkLaws.{ok_then, on_err}
use Rattle.ds_engine.proofs.rows.branch_rows.Goals as goal

pub returns-clause-refused : goal.returns-clause-refused
returns-clause-refused g c =
    let q = c.args.branch.now in
    let w = c.args.query.now.window.now in
    let fewer = bound-le q w.start w.end (most_of c.args.query.now.normal.now w) (asked_in c.args.snapshot.now) in
    let within = c.in_ok-rows.ensures.steps in
    on_err c.in_columns.result (c.answer.new.steps ≤ c.args.steps.now + bound_in w None q c.args.snapshot.now)
    (omega (arith, fewer, within))

pub returns-clause-a_step_for_each : goal.returns-clause-a_step_for_each
returns-clause-a_step_for_each g c =
    let each = c.in_ok-rows.ensures.a_step_for_each in
    ok_then c.in_columns.result c.in_columns.ensures.as_many (λ all is. omega (arith, is, each))
