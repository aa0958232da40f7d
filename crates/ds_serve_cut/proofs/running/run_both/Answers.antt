use Rattle.std.proofs.Common.{◌∙◌, []}
use Rattle.ds_base.specs.Limits.{first_drawn_id}
use Rattle.ds_cutting.specs.CutSteps.{asked_of}
use Rattle.ds_serve_cut.proofs.NoneRun.{nothing_ran}
use Rattle.ds_serve_cut.proofs.running.run_both.Goals as goal

pub run_made-requires-clause-second : goal.run_made-requires-clause-second
run_made-requires-clause-second g c κs within =
    (c.requires.names.definitions_are ∙ c.requires.given.1, c.requires.names.window_is ∙ c.requires.given.2)

pub run_made-requires-clause-unfed : goal.run_made-requires-clause-unfed
run_made-requires-clause-unfed g c κs within =
    c.in-Ok.ensures
    ∙ (λ i. record { shards = c.requires.given.0 i; passes = c.requires.given.3 i; journal = []; next = first_drawn_id })

pub returns-in-Err : goal.returns-in-Err
returns-in-Err g c =
    let plan = c.args.plan.now in
    nothing_ran (asked_of plan.shards plan.window plan.first.now) plan.second.now plan.after (g.I.Source.left c.args.input.now)
    (g.O.Sink.held c.args.output.now) (g.I.Source.faults c.args.input.now) (g.O.Sink.faults c.args.output.now) c.nothing_run.result
    c.nothing_run.ensures.status c.nothing_run.ensures.cut c.nothing_run.ensures.journal c.nothing_run.ensures.unsent
