use Rattle.std.proofs.Common.{[], false, inl, inr, length, refl, arith}
use Rattle.ds_rounds.specs.Rounds.{rounds_in}
use Rattle.ds_words.specs.declared.status.Status.TheVariants as status
use Rattle.ds_serve.proofs.Ends.{ends_at_once}
use Rattle.ds_serve.proofs.SameSetting.{same_setting}
use Rattle.ds_serve.proofs.top.serve_input.Goals as goal

pub returns-clause-legal : goal.returns-clause-legal
returns-clause-legal g c = λ words content is_set.
    ends_at_once status.NoMemory words content c.nothing_run.result.status (g.I.Source.left c.args.input.now)
    (g.O.Sink.held c.args.output.now)
    c.nothing_run.result.journal c.nothing_run.result.unsent (rounds_in false 1 [], refl, inr (refl, omega arith)) (inl refl)
    c.nothing_run.ensures.status c.nothing_run.ensures.journal c.nothing_run.ensures.unsent

pub returns-in-Ok-clause-journal : goal.returns-in-Ok-clause-journal
returns-in-Ok-clause-journal g c = c.run_opened.ensures.journal

pub returns-in-Ok-clause-unsent : goal.returns-in-Ok-clause-unsent
returns-in-Ok-clause-unsent g c = c.run_opened.ensures.unsent

pub returns-in-Ok-clause-began : goal.returns-in-Ok-clause-began
returns-in-Ok-clause-began g c = c.run_opened.ensures.began

pub returns-in-Ok-clause-read_fault : goal.returns-in-Ok-clause-read_fault
returns-in-Ok-clause-read_fault g c = c.run_opened.ensures.read_fault

pub returns-in-Ok-clause-write_fault : goal.returns-in-Ok-clause-write_fault
returns-in-Ok-clause-write_fault g c = c.run_opened.ensures.write_fault

pub returns-in-Ok-clause-legal : goal.returns-in-Ok-clause-legal
returns-in-Ok-clause-legal g c = λ words content is_set.
    let given = c.in-Ok.ensures.given in
    c.run_opened.ensures.legal words content
    (same_setting words content c.args.start.setting (record {
      shards = length c.in-Ok.opened.shards;
      window = c.in-Ok.opened.window;
      defs = c.in-Ok.opened.definitions;
    }) given.0 given.2 given.1 is_set)
