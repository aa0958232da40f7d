use Rattle.std.proofs.Common.{◌∙◌, ap, length, replicate, sym}
use Rattle.ds_store.specs.Passes.{nothing_seen}
use Rattle.ds_serve.proofs.Ends.{nothing_ran}
use Rattle.ds_serve.proofs.SameSetting.{same_run}
use Rattle.ds_serve.proofs.running.run_opened.Goals as goal

pub run_made-requires-clause-passes : goal.run_made-requires-clause-passes
run_made-requires-clause-passes g c κs within =
    c.in-Ok.ensures.passes
    ∙ ap (λ n. replicate n (nothing_seen (length c.args.opened.shards))) (sym c.in-Ok.ensures.store.1)
    ∙ ap (λ m. replicate c.in-Ok.made.store.passes (nothing_seen m)) (sym c.in-Ok.ensures.store.0)

pub run_made-requires-clause-definitions : goal.run_made-requires-clause-definitions
run_made-requires-clause-definitions g c κs within = c.requires.definitions ∙ sym c.requires.names.definitions_are

pub returns-in-Ok : goal.returns-in-Ok
returns-in-Ok g c =
    same_run (record { shards = length c.args.opened.shards; window = c.args.opened.window; defs = c.args.opened.definitions })
    (record { shards = c.in-Ok.made.store.shards; window = g.J.Names.window; defs = g.J.Names.definitions }) c.run_made.result
    c.in-Ok.ensures.store.0 c.requires.names.window_is c.requires.names.definitions_are c.run_made.ensures

pub returns-in-Err : goal.returns-in-Err
returns-in-Err g c =
    nothing_ran (record { shards = length c.args.opened.shards; window = c.args.opened.window; defs = c.args.opened.definitions })
    (g.I.Source.left c.args.input.now) (g.O.Sink.held c.args.output.now) (g.I.Source.faults c.args.input.now)
    (g.O.Sink.faults c.args.output.now) c.nothing_run.result c.nothing_run.ensures.status c.nothing_run.ensures.journal
    c.nothing_run.ensures.unsent
