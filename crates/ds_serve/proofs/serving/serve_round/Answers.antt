use Rattle.std.proofs.Common.{◌≡◌, subst, sym}
use Rattle.ds_serving.specs.Runs.{HasBegun}
use Rattle.ds_serve.specs.RunSteps.{LeavesOne, WhereStopped, round_write_faults}
use Rattle.ds_serving.proofs.RoundLaws.{none_failed}
use Rattle.ds_serve.specs.declared.stopped.RoundOutcome.{RoundOutcome}
use Rattle.ds_serve.proofs.Behind.{none_run, round_served, round_unsent}
use Rattle.ds_serving.proofs.EndLaws.{begun_end}
use Rattle.ds_serve.proofs.serving.serve_round.Goals as goal

pub returns-in-Ok-clause-leaves : goal.returns-in-Ok-clause-leaves
returns-in-Ok-clause-leaves g c = λ first earlier said many left held before.
    round_served c.args.serving.now first earlier said many before c.in-Ran.ensures.next c.write_round.ensures.alike c.in-Ok.ensures.ok

pub returns-in-Err-clause-leaves : goal.returns-in-Err-clause-leaves
returns-in-Err-clause-leaves g c = λ first earlier said many left held before.
    round_unsent c.args.serving.now first earlier said many c.in-Err.unsent before c.in-Ran.ensures.next c.write_round.ensures.alike
    c.in-Err.ensures.err

pub returns-in-Ended-clause-leaves : goal.returns-in-Ended-clause-leaves
returns-in-Ended-clause-leaves g c = λ first earlier said many left held before.
    subst (λ (s : RoundOutcome). LeavesOne c.args.serving.now first earlier said many s left (g.I.Source.left c.run_next.new.input) held
    (g.O.Sink.held c.args.output.now) c.run_next.new.rounds c.run_next.new.sessions) (sym c.stop_with.ensures)
    (none_run c.args.serving.now first earlier said many c.in-Ended.status c.in-Ended.ensures.end before c.in-Ended.ensures.next)

pub returns-in-Ended-clause-began : goal.returns-in-Ended-clause-began
returns-in-Ended-clause-began g c =
    subst (λ (s : RoundOutcome). WhereStopped (λ t. HasBegun t.status) s) (sym c.stop_with.ensures)
    (begun_end c.in-Ended.status c.in-Ended.ensures.end)

pub returns-in-Ended-clause-write_faults : goal.returns-in-Ended-clause-write_faults
returns-in-Ended-clause-write_faults g c =
    let faults = g.O.Sink.faults c.args.output.now in
    subst (λ (s : RoundOutcome). faults ≡ round_write_faults s faults) (sym c.stop_with.ensures)
    (sym (none_failed c.in-Ended.status faults c.in-Ended.ensures.end))
