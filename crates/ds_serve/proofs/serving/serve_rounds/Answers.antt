use Rattle.std.proofs.Common.{◌+◌, ◌∙◌, ap, length, refl}
use Rattle.ds_serving.specs.Runs.{read_faults, write_faults}
use Rattle.ds_serve.specs.RunSteps.{Exactly}
use Rattle.ds_serve.proofs.Behind.{behind_length, counted, stopped_past, uncounted}
use Rattle.ds_serve.proofs.serving.serve_rounds.Goals as goal

pub serve-init : goal.serve-init
serve-init g c = record {
  served = λ first earlier said left held before. before;
  counts = c.requires.counts;
  written = c.requires.written;
  no_read_fault = refl;
  no_write_fault = refl;
  numbered = c.requires.reader;
}

pub serve-preserved : goal.serve-preserved
serve-preserved g c = record {
  served = λ first earlier said left held given.
      let before = c.serve.invariant.served first earlier said left held given in
      uncounted c.args.serving.now first earlier said (Exactly (length before.rounds + 1))
      (c.in-Served.ensures.leaves first earlier said _ left held (counted c.args.serving.now first earlier said before));
  counts = c.in-Served.ensures.counts;
  written = c.in-Served.ensures.written;
  no_read_fault = c.in-Served.ensures.read_faults ∙ c.serve.invariant.no_read_fault;
  no_write_fault = c.in-Served.ensures.write_faults ∙ c.serve.invariant.no_write_fault;
  numbered = c.in-Served.ensures.within refl;
}

pub returns-in-Stopped : goal.returns-in-Stopped
returns-in-Stopped g c = record {
  stopped = λ first earlier said left held given.
      let before = c.serve.invariant.served first earlier said left held given in
      stopped_past c.args.serving.now first earlier said c.in-Stopped.stopped.status (length before.rounds)
      (behind_length c.args.serving.now first earlier said before.has_run)
      (c.in-Stopped.ensures.leaves first earlier said _ left held (counted c.args.serving.now first earlier said before));
  unsent = c.in-Stopped.ensures.unsent;
  began = c.in-Stopped.ensures.began;
  read_fault = c.in-Stopped.ensures.read_faults ∙ ap (read_faults c.in-Stopped.stopped.status) c.serve.invariant.no_read_fault;
  write_fault = c.in-Stopped.ensures.write_faults ∙ ap (write_faults c.in-Stopped.stopped.status) c.serve.invariant.no_write_fault;
}
