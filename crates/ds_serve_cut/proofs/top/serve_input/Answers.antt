use Rattle.ds_serve_cut.proofs.NoneRun.{nothing_ran}
use Rattle.ds_serve_cut.proofs.top.serve_input.Goals as goal

pub returns-clause-legal : goal.returns-clause-legal
returns-clause-legal g c =
    let start = c.args.start in
    (nothing_ran start.start.setting start.second start.after (g.I.Source.left c.args.input.now) (g.O.Sink.held c.args.output.now)
    (g.I.Source.faults c.args.input.now) (g.O.Sink.faults c.args.output.now) c.nothing_run.result c.nothing_run.ensures.status
    c.nothing_run.ensures.cut c.nothing_run.ensures.journal c.nothing_run.ensures.unsent).legal

pub returns-clause-ends : goal.returns-clause-ends
returns-clause-ends g c =
    let start = c.args.start in
    (nothing_ran start.start.setting start.second start.after (g.I.Source.left c.args.input.now) (g.O.Sink.held c.args.output.now)
    (g.I.Source.faults c.args.input.now) (g.O.Sink.faults c.args.output.now) c.nothing_run.result c.nothing_run.ensures.status
    c.nothing_run.ensures.cut c.nothing_run.ensures.journal c.nothing_run.ensures.unsent).ends

pub returns-in-Ok-clause-legal : goal.returns-in-Ok-clause-legal
returns-in-Ok-clause-legal g c = c.run_opened.ensures.legal

pub returns-in-Ok-clause-ends : goal.returns-in-Ok-clause-ends
returns-in-Ok-clause-ends g c = c.run_opened.ensures.ends
