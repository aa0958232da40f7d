use Rattle.std.proofs.Common.{◌∙◌, ap, arith, refl, subst}
use Rattle.ds_serving.specs.Rounds.{HasServed}
use Rattle.ds_serving.specs.Runs.{read_faults, write_faults}
use Rattle.ds_serve.specs.RunSteps.{Counted, Exactly, RanBehind}
use Rattle.ds_serve.proofs.Behind.{stopped_within}
use Rattle.ds_serve.proofs.serving.serve_some.Goals as goal

pub loop-done-init : goal.loop-done-init
loop-done-init g c = record {
  served = λ first before said left held given. given;
  counts = c.requires.counts;
  written = c.requires.written;
  no_read_fault = refl;
  no_write_fault = refl;
  numbered = c.requires.within;
}

pub loop-done-preserved : goal.loop-done-preserved
loop-done-preserved g c = record {
  served = λ first before said left held given.
      c.in-Served.ensures.leaves first before said _ left held (c.loop-done.invariant.served first before said left held given);
  counts = c.in-Served.ensures.counts;
  written = c.in-Served.ensures.written;
  no_read_fault = c.in-Served.ensures.read_faults ∙ c.loop-done.invariant.no_read_fault;
  no_write_fault = c.in-Served.ensures.write_faults ∙ c.loop-done.invariant.no_write_fault;
  numbered = c.in-Served.ensures.within refl;
}

pub returns-in-Stopped-clause-leaves : goal.returns-in-Stopped-clause-leaves
returns-in-Stopped-clause-leaves g c = λ first before said left held given.
    stopped_within c.args.serving.now first before said c.in-Stopped.stopped.status c.loop-done._done c.args.many c.loop-done-test.true
    (c.in-Stopped.ensures.leaves first before said _ left held (c.loop-done.invariant.served first before said left held given))

pub returns-in-Stopped-clause-read_faults : goal.returns-in-Stopped-clause-read_faults
returns-in-Stopped-clause-read_faults g c =
    c.in-Stopped.ensures.read_faults ∙ ap (read_faults c.in-Stopped.stopped.status) c.loop-done.invariant.no_read_fault

pub returns-in-Stopped-clause-write_faults : goal.returns-in-Stopped-clause-write_faults
returns-in-Stopped-clause-write_faults g c =
    c.in-Stopped.ensures.write_faults ∙ ap (write_faults c.in-Stopped.stopped.status) c.loop-done.invariant.no_write_fault

pub returns-clause-leaves : goal.returns-clause-leaves
returns-clause-leaves g c = λ first before said left held given.
    subst (λ n. HasServed (Counted (Exactly n) (RanBehind c.args.serving.now first before said)) left (g.I.Source.left c.loop-done.input) held
    (g.O.Sink.held c.loop-done.output) c.loop-done.rounds c.loop-done.sessions)
    (omega (arith, c.loop-done-test.false, c.loop-done.auto._done-end))
    (c.loop-done.invariant.served first before said left held given)
