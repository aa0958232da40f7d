use Rattle.std.proofs.Common.{◌∙◌, ap, arith, subst, sym}
use Rattle.std.proofs.lemmas.List.Elements.{All-append, All-take}
use Rattle.ds_protocol.specs.Watermarks.{HaveCounts}
use Rattle.ds_rounds.specs.Reading.{ReaderParts, first_reader}
use Rattle.ds_clients.specs.Runs.{IsIdle, seen_of}
use Rattle.ds_serving.specs.declared.settings.Setting.{Setting}
use Rattle.ds_serving.proofs.Alike.{all_drop}
use Rattle.ds_serve.specs.RunSteps.{HasEnded}
use Rattle.ds_serve.proofs.Ends.{closed, counts_new}
use Rattle.ds_serve.proofs.running.run_begun.Goals as goal

pub serve_beside-stopped-requires-clause-counts : goal.serve_beside-stopped-requires-clause-counts
serve_beside-stopped-requires-clause-counts g c κs within =
    subst (λ (s : Setting). HaveCounts s.shards (seen_of c.args.ready.begun.sessions)) (sym c.new-serving.ensures)
    (counts_new c.args.ready.store.shards c.args.ready.begun.sessions c.requires.sessions)

pub serve_beside-stopped-requires-clause-reader : goal.serve_beside-stopped-requires-clause-reader
serve_beside-stopped-requires-clause-reader g c κs within = omega (arith, ap (λ (r : ReaderParts). r.number) c.requires.rounds)

pub serve_beside-stopped-requires-clause-written : goal.serve_beside-stopped-requires-clause-written
serve_beside-stopped-requires-clause-written g c κs within = c.requires.sessions.written

pub returns : goal.returns
returns g c =
    let after = c.serve_beside-stopped.new in
    closed c.serve_beside-stopped.result c.from.result _ c.close.result c.requires.sessions
    (subst (λ (s : Setting). HasEnded s first_reader (g.I.Source.left c.args.input.now) (g.I.Source.left after.input)
    (g.O.Sink.held c.args.output.now) (g.O.Sink.held after.output) (g.I.Source.faults c.args.input.now) (g.I.Source.faults after.input)
    (g.O.Sink.faults c.args.output.now) (g.O.Sink.faults after.output) c.args.ready.begun.sessions after.sessions
    c.serve_beside-stopped.result) c.new-serving.ensures
    (subst (λ (r : ReaderParts). HasEnded c.new-serving.result r (g.I.Source.left c.args.input.now) (g.I.Source.left after.input)
    (g.O.Sink.held c.args.output.now) (g.O.Sink.held after.output) (g.I.Source.faults c.args.input.now) (g.I.Source.faults after.input)
    (g.O.Sink.faults c.args.output.now) (g.O.Sink.faults after.output) c.args.ready.begun.sessions after.sessions
    c.serve_beside-stopped.result) c.requires.rounds c.serve_beside-stopped.ensures.ended))
    (c.from.ensures ∙ c.end.ensures.passes)
    (All-take IsIdle _ _ (All-append IsIdle _ _ c.serve_beside-stopped.ensures.idle (all_drop IsIdle _ _ c.requires.appliers)))
    c.close.ensures.status c.close.ensures.unsent c.close.ensures.journal c.close.ensures.ended
