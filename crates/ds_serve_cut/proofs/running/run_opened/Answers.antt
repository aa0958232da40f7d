use Rattle.std.proofs.Common.{◌∙◌, List, ap, length, replicate}
use Rattle.std.proofs.lemmas.List.{length-map}
use Rattle.ds_hub.specs.Line.{HubId}
use Rattle.ds_store.specs.Passes.{nothing_seen}
use Rattle.ds_cutting.specs.CutSteps.{asked_of}
use Rattle.ds_serve_cut.proofs.NoneRun.{nothing_ran}
use Rattle.ds_serve_cut.proofs.running.run_opened.Goals as goal

pub run_both-requires-clause-first : goal.run_both-requires-clause-first
run_both-requires-clause-first g c κs within =
    let given = c.requires.given in
    let names = c.requires.names in (
      c.in-Ok.ensures.store.0 ∙ given.0,
      ap (λ (hubs : List HubId). length hubs) names.shards_are ∙ length-map c.args.opened.shards (λ s. s.0) ∙ given.0,
      names.definitions_are ∙ given.1,
      names.window_is ∙ given.2,
      c.in-Ok.ensures.store.1 ∙ given.3,
    )

pub run_both-requires-clause-new : goal.run_both-requires-clause-new
run_both-requires-clause-new g c κs within =
    let given = c.requires.given in
    c.in-Ok.ensures.passes ∙ ap (λ n. replicate n (nothing_seen (length c.args.opened.shards))) given.3
    ∙ ap (λ m. replicate c.args.plan.now.passes (nothing_seen m)) given.0

pub returns-in_default : goal.returns-in_default
returns-in_default g c =
    let plan = c.args.plan.now in
    nothing_ran (asked_of plan.shards plan.window plan.first.now) plan.second.now plan.after (g.I.Source.left c.args.input.now)
    (g.O.Sink.held c.args.output.now) (g.I.Source.faults c.args.input.now) (g.O.Sink.faults c.args.output.now) c.nothing_run.result
    c.nothing_run.ensures.status c.nothing_run.ensures.cut c.nothing_run.ensures.journal c.nothing_run.ensures.unsent

pub returns-in-Err : goal.returns-in-Err
returns-in-Err g c =
    let plan = c.args.plan.now in
    nothing_ran (asked_of plan.shards plan.window plan.first.now) plan.second.now plan.after (g.I.Source.left c.args.input.now)
    (g.O.Sink.held c.args.output.now) (g.I.Source.faults c.args.input.now) (g.O.Sink.faults c.args.output.now) c.nothing_run-in-Err.result
    c.nothing_run-in-Err.ensures.status c.nothing_run-in-Err.ensures.cut c.nothing_run-in-Err.ensures.journal
    c.nothing_run-in-Err.ensures.unsent
